-- A line's links, some of which were added.
use Rattle.std.specs.Prelude.{◌≡◌, ℕ, List, ◌++◌, None, Result, Ok, Err}
use Rattle.medium_core.specs.declared.link.Link.{Link}
use Rattle.network_setup.specs.Shapes.{linked}
use Rattle.network_setup.specs.declared.carriage.Carriage.{Carriage}
use Rattle.network_setup.specs.declared.fault.LineFault.{LineFault}

-- these links were added, whatever other ones follow them
abbrev pub Links : Result (Unit {0}) LineFault → List (ℕ × ℕ) → Carriage → Carriage → List (List Link) → List (List Link) → Type 0
Links (Ok _) added before after old new = (later : List (ℕ × ℕ)) → linked (added ++ later) before old ≡ linked later after new
Links (Err LineFault.Malformed) added before after old new = (later : List (ℕ × ℕ)) → linked (added ++ later) before old ≡ None
Links (Err LineFault.Memory) added before after old new = Unit {0}
