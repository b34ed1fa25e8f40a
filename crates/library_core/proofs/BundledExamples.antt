-- Examples: what a struct of an application says.
use Rattle.std.proofs.Common.{◌≡◌, ℕ, Option, List, ◌∷◌, refl, Some, None, replicate, true, false, [], codes}
use Rattle.mote_apps.specs.Bundled.{named}
use Rattle.mote_apps.specs.declared.bundled.Bundled.{Bundled}
use Rattle.mote_apps.specs.declared.ping.Stage.{Stage}
use Rattle.mote_apps.specs.declared.relay.Stage.{Stage as RelayStage}
use Rattle.library_core.specs.PlainApplications.{application_said, byte_in, event_in, is_set, number_in, ping_stage, relay_stage, rest_in}
use Rattle.library_core.specs.declared.application.PlainApplication.{PlainApplication}

-- these numbers, and n bytes of 7
abbrev plain : ℕ → List ℕ → ℕ → PlainApplication
plain kind numbers count = record { kind = kind; numbers = numbers; length = count; bytes = replicate 128 7 }

abbrev said : ℕ → ℕ → ℕ → ℕ → ℕ → Option Bundled
said kind a b c d = application_said (plain kind (a ∷ b ∷ c ∷ d ∷ []) 0)

-- a kind alone is an application at its start
names : (said 1 0 0 0 0 ≡ named (codes "hello")) × (said 2 0 0 0 0 ≡ named (codes "blink")) × (said 3 0 0 0 0 ≡ named (codes "echo"))
    × (said 4 0 0 0 0 ≡ named (codes "relay")) × (said 5 0 0 0 0 ≡ named (codes "churn")) × (said 6 0 0 0 0 ≡ named (codes "ping"))
names = (refl, refl, refl, refl, refl, refl)

-- no kind 0, and none after the last; hello has no numbers, and each of blink's is a truth value
kinds : (said 0 0 0 0 0 ≡ None) × (said 7 0 0 0 0 ≡ None) × (said 1 9 9 9 9 ≡ Some (Bundled.Hello (record {})))
    × (said 2 0 300 9 9 ≡ Some (Bundled.Blink (record { lit = false; printed = true })))
kinds = (refl, refl, refl, refl)

-- an echo has at most 64 bytes
echoes : (application_said (plain 3 [] 2) ≡ Some (Bundled.Echo (record { rest = record { items = 7 ∷ 7 ∷ [] } })))
    × (application_said (plain 3 [] 65) ≡ None)
echoes = (refl, refl)

-- a relay has nine stages, and its length is a byte
relays : (said 4 8 255 9 9 ≡ Some (Bundled.Relay (record { len = 255; stage = RelayStage.Finishing }))) × (said 4 9 0 0 0 ≡ None)
    × (said 4 0 256 0 0 ≡ None)
relays = (refl, refl, refl)

-- a churn has no place before its start, then a byte
churns : (said 5 0 999 0 0 ≡ Some (Bundled.Churn (record { made = 18 }))) × (said 5 1 3 0 0 ≡ Some (Bundled.Churn (record { made = 3 })))
    × (said 5 1 256 0 0 ≡ None)
churns = (refl, refl, refl)

-- a ping has three stages, any count, and at most one event number, a byte
pings : (said 6 2 70000 1 140 ≡ Some (Bundled.Ping (record { number = Some 140; count = 70000; stage = Stage.Sent })))
    × (said 6 1 0 0 999 ≡ Some (Bundled.Ping (record { number = None; count = 0; stage = Stage.Asked })))
    × (said 6 3 0 0 0 ≡ None) × (said 6 0 0 1 256 ≡ None)
pings = (refl, refl, refl, refl)

parts : (number_in 1 (plain 1 (5 ∷ 6 ∷ []) 0) ≡ 6) × (is_set 0 (plain 1 (0 ∷ []) 0) ≡ false) × (byte_in 0 (plain 1 (256 ∷ []) 0) ≡ None)
    × (rest_in (plain 1 [] 65) ≡ None) × (event_in (plain 1 [] 0) ≡ Some None) × (relay_stage 9 ≡ None) × (ping_stage 2 ≡ Some Stage.Sent)
parts = (refl, refl, refl, refl, refl, refl, refl)
