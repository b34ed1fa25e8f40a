-- Examples: the names of the mote's own applications.
use Rattle.std.proofs.Common.{◌≡◌, [], ◌∷◌, codes, refl, None, find, length}
use Rattle.mote_apps.specs.Bundled.{named}
use Rattle.command_line.specs.CommandLine.{applications_of, is_unknown}

-- repeats are allowed
three_applications : length (applications_of named (codes "blink" ∷ codes "echo" ∷ codes "blink" ∷ [])) ≡ 3
three_applications = refl

all_known : find (is_unknown named)
    (codes "hello" ∷ codes "blink" ∷ codes "echo" ∷ codes "relay" ∷ codes "churn" ∷ codes "ping" ∷ []) ≡ None
all_known = refl
