-- A tournament in a row of nodes.
use Rattle.std.specs.Prelude.{◌≡◌, ℕ, ◌+◌, ◌-◌, ◌<◌, ◌≤◌, ◌^◌, ◌==◌, ◌||◌, ◌&&◌, Bool, List, drop, length, map, get_or, nat_le, nat_lt, if◌then◌else◌}
use Rattle.network_session.specs.declared.alarm.Alarm.{Alarm}

abbrev pub no_alarm : Alarm
no_alarm = record { moment = 0; owner = 0 }

abbrev pub is_earlier : Alarm → Alarm → Bool
is_earlier a b = nat_lt a.moment b.moment || (a.moment == b.moment && nat_le a.owner b.owner)

abbrev pub earlier_of : Alarm → Alarm → Alarm
earlier_of a b = if is_earlier a b then a else b

abbrev pub node_of : List Alarm → ℕ → Alarm
node_of nodes k = get_or nodes k no_alarm

-- node k has the earlier of the two below
abbrev pub IsWon : List Alarm → ℕ → Type 0
IsWon nodes k = node_of nodes k ≡ earlier_of (node_of nodes (k + k)) (node_of nodes (k + k + 1))

abbrev pub moments_in : ℕ → List Alarm → List ℕ
moments_in count nodes = map (λ (a : Alarm). a.moment) (drop count nodes)

pub record IsTournament (count : ℕ) (nodes : List Alarm) : Type 0 where
  pub size : length nodes ≡ count + count
  pub few : count ≤ 2 ^ 32
  -- the players are in order
  pub numbered : (m : ℕ) → m < count → (node_of nodes (count + m)).owner ≡ m
  pub won : (k : ℕ) → 1 ≤ k → k < count → IsWon nodes k

-- the node in this position, where no game was played
abbrev pub player_at : List ℕ → ℕ → Alarm
player_at moments at =
    if nat_lt at (length moments) then no_alarm
    else record { moment = get_or moments (at - length moments) 0; owner = at - length moments }

-- the first nodes of a row where no game was played
pub record IsRow (moments : List ℕ) (count : ℕ) (nodes : List Alarm) : Type 0 where
  pub size : length nodes ≡ count
  pub each : (k : ℕ) → k < count → node_of nodes k ≡ player_at moments k
