-- What a struct of an application says: a bundled application as it is between two turns; or none.
use Rattle.std.specs.Prelude.{◌≡◌, ℕ, Bool, not, List, [], ◌∷◌, take, slice_index_or, Option, Some, None, option_map, option_and_then, if◌then◌else◌, ◌==◌, nat_lt, nat_le}
use Rattle.arrayvec.specs.ArrayVec.{ArrayVec}
use Rattle.mote_apps.specs.Bundled.{bundled_says}
use Rattle.mote_apps.specs.declared.blink.Blink.{Blink}
use Rattle.mote_apps.specs.declared.bundled.Bundled.{Bundled}
use Rattle.mote_apps.specs.declared.churn.Churn.{Churn}
use Rattle.mote_apps.specs.declared.echo.Echo.{Echo}
use Rattle.mote_apps.specs.declared.ping.Ping.{Ping}
use Rattle.mote_apps.specs.declared.ping.Stage.{Stage}
use Rattle.mote_apps.specs.declared.relay.Relay.{Relay}
use Rattle.mote_apps.specs.declared.relay.Stage.{Stage as RelayStage}
use Rattle.mote_types.specs.declared.call.Call.{Call}
use Rattle.mote_types.specs.declared.event.Stimulus.{Stimulus}
use Rattle.library_core.specs.declared.application.PlainApplication.{PlainApplication}

-- its parts

abbrev pub number_in : ℕ → PlainApplication → ℕ
number_in index plain = slice_index_or plain.numbers index 0

-- a truth value: 0 is false
abbrev pub is_set : ℕ → PlainApplication → Bool
is_set index plain = not (number_in index plain == 0)

-- a number that fits in a byte
abbrev pub byte_in : ℕ → PlainApplication → Option ℕ
byte_in index plain = if nat_lt (number_in index plain) 256 then Some (number_in index plain) else None

-- this many bytes from the front on, where these are not too many for a print
abbrev pub rest_in : PlainApplication → Option (ArrayVec ℕ)
rest_in plain = if nat_le plain.length 64 then Some (record { items = take plain.length plain.bytes }) else None

-- the stages, numbered in their order

abbrev pub relay_stages : List (Option RelayStage)
relay_stages =
    Some RelayStage.Idle
    ∷ Some RelayStage.Allocating
    ∷ Some RelayStage.ReadingFront
    ∷ Some RelayStage.WritingFront
    ∷ Some RelayStage.ReadingRest
    ∷ Some RelayStage.WritingRest
    ∷ Some RelayStage.Sending
    ∷ Some RelayStage.Freeing
    ∷ Some RelayStage.Finishing
    ∷ []

abbrev pub relay_stage : ℕ → Option RelayStage
relay_stage number = slice_index_or relay_stages number None

abbrev pub ping_stages : List (Option Stage)
ping_stages = Some Stage.Idle ∷ Some Stage.Asked ∷ Some Stage.Sent ∷ []

abbrev pub ping_stage : ℕ → Option Stage
ping_stage number = slice_index_or ping_stages number None

-- the applications

-- whether the light is on, and whether its change is being printed
abbrev pub blink_in : PlainApplication → Blink
blink_in plain = record { lit = is_set 0 plain; printed = is_set 1 plain }

-- what is still to be printed
abbrev pub echo_in : PlainApplication → Option Echo
echo_in plain = option_map (λ rest. record { rest = rest }) (rest_in plain)

-- which reply it awaits, and the length of the present frame
abbrev pub relay_in : PlainApplication → Option Relay
relay_in plain =
    option_and_then (λ stage. option_map (λ len. record { len = len; stage = stage }) (byte_in 1 plain)) (relay_stage (number_in 0 plain))

-- whether it has begun, and how many of its calls it has made since
abbrev pub churn_in : PlainApplication → Option Churn
churn_in plain = option_map (λ made. record { made = made }) (if is_set 0 plain then byte_in 1 plain else Some 18)

-- whether it has drawn an event number, and which
abbrev pub event_in : PlainApplication → Option (Option ℕ)
event_in plain = if is_set 2 plain then option_map (λ number. Some number) (byte_in 3 plain) else Some None

-- which reply it awaits, the count that is broadcast next, and the event number
abbrev pub ping_in : PlainApplication → Option Ping
ping_in plain =
    option_and_then
    (λ stage. option_map (λ number. record { number = number; count = number_in 1 plain; stage = stage }) (event_in plain))
    (ping_stage (number_in 0 plain))

-- the application that it says, by the kinds of toarmuts.h
abbrev pub application_said : PlainApplication → Option Bundled
application_said plain =
    if plain.kind == 1 then Some (Bundled.Hello (record {}))
    else if plain.kind == 2 then Some (Bundled.Blink (blink_in plain))
    else if plain.kind == 3 then option_map (λ echo. Bundled.Echo echo) (echo_in plain)
    else if plain.kind == 4 then option_map (λ relay. Bundled.Relay relay) (relay_in plain)
    else if plain.kind == 5 then option_map (λ churn. Bundled.Churn churn) (churn_in plain)
    else if plain.kind == 6 then option_map (λ ping. Bundled.Ping ping) (ping_in plain)
    else None

-- a turn

-- the call is the one that the application before says to the stimulus; the one after says what it would have said after that
pub record MakesCall (call : Call) (stimulus : Stimulus) (old new : PlainApplication) : Type 0 where
  pub before : Bundled
  pub said : application_said old ≡ Some before
  pub makes : call ≡ bundled_says before (stimulus ∷ [])
  pub after : Bundled
  pub said_after : application_said new ≡ Some after
  pub law : (next : Stimulus) (later : List Stimulus) → bundled_says after (next ∷ later) ≡ bundled_says before (stimulus ∷ (next ∷ later))
