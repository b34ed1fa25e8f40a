-- What the first bytes of a frame's content and of a message say it is.
use Rattle.std.specs.Prelude.{ℕ, ◌/◌, ◌==◌, ◌&&◌, nat_le, Option, Some, None, if◌then◌else◌}
use Rattle.mote_picture.specs.declared.network.lowpan.Dispatch.{Dispatch}
use Rattle.mote_picture.specs.declared.network.packet.Message.{Message}

-- the dispatch byte (RFC 4944, sections 5.1 and 5.3; RFC 6282, section 2): 01000001, 011xxxxx, 11000xxx, 11100xxx
abbrev pub dispatch_of : ℕ → Dispatch
dispatch_of byte =
    if byte == 65 then Dispatch.Whole
    else if byte / 32 == 3 then Dispatch.Compressed
    else if byte / 8 == 24 then Dispatch.FirstFragment
    else if byte / 8 == 28 then Dispatch.LaterFragment
    else Dispatch.NotLowpan

-- the code of a message of RPL (RFC 6550, section 6)
abbrev pub rpl_message_of : ℕ → Option Message
rpl_message_of code =
    if code == 0 then Some Message.Dis
    else if code == 1 then Some Message.Dio
    else if code == 2 then Some Message.Dao
    else if code == 3 then Some Message.DaoAck
    else None

-- the type of a message of ICMPv6 (RFC 4443, section 2.1), and its code
abbrev pub message_of : ℕ → ℕ → Option Message
message_of kind code =
    if nat_le 1 kind && nat_le kind 4 then Some (Message.Error kind code)
    else if kind == 128 then Some Message.EchoRequest
    else if kind == 129 then Some Message.EchoReply
    else if kind == 155 then rpl_message_of code
    else None
