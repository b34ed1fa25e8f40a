-- The applications by their names.
use Rattle.std.specs.Prelude.{ℕ, false, List, [], Option, Some, None, bytes_eq, codes, if◌then◌else◌}
use Rattle.mote_types.specs.Applications.{Says}
use Rattle.mote_apps.specs.declared.bundled.Bundled.{Bundled}
use Rattle.mote_apps.specs.declared.ping.Stage.{Stage}
use Rattle.mote_apps.specs.declared.relay.Stage.{Stage as RelayStage}
use Rattle.mote_apps.specs.Blink.{blink_says}
use Rattle.mote_apps.specs.Churn.{churn_says}
use Rattle.mote_apps.specs.Echo.{echo_says}
use Rattle.mote_apps.specs.Hello.{hello_says}
use Rattle.mote_apps.specs.Ping.{ping_says}
use Rattle.mote_apps.specs.Relay.{relay_says}

-- the application of this name, as it begins
abbrev pub named : List ℕ → Option Bundled
named word =
    if bytes_eq word (codes "hello") then Some (Bundled.Hello (record {}))
    else if bytes_eq word (codes "blink") then Some (Bundled.Blink (record { lit = false; printed = false }))
    else if bytes_eq word (codes "echo") then Some (Bundled.Echo (record { rest = record { items = [] } }))
    else if bytes_eq word (codes "relay") then Some (Bundled.Relay (record { len = 0; stage = RelayStage.Idle }))
    else if bytes_eq word (codes "churn") then Some (Bundled.Churn (record { made = 18 }))
    else if bytes_eq word (codes "ping") then Some (Bundled.Ping (record { number = None; count = 0; stage = Stage.Idle }))
    else None

-- it says what that application says
abbrev pub bundled_says : Bundled → Says
bundled_says (Bundled.Hello hello) = hello_says
bundled_says (Bundled.Blink blink) = blink_says blink
bundled_says (Bundled.Echo echo) = echo_says echo
bundled_says (Bundled.Relay relay) = relay_says relay
bundled_says (Bundled.Churn churn) = churn_says churn
bundled_says (Bundled.Ping ping) = ping_says ping
