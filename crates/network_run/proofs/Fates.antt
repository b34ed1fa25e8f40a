-- The lines of what came, and of links that didn't carry a frame, one after the other.
use Rattle.std.proofs.Common.{◌≡◌, ℕ, Bool, true, false, is_some, Option, None, Some, List, [], ◌++◌, append_assoc, ap, refl, sym, ◌∙◌}
use Rattle.network_session.specs.Network.{NetworkView}
use Rattle.network_steps.specs.Lines.{came_line, is_loss, loss_line, losses_left, shown_losses}
use Rattle.network_steps.specs.StepsView.{StepsView}
use Rattle.network_steps.specs.declared.came.Phase.{Phase}
use Rattle.network_steps.specs.declared.came.Sending.{Sending}
use Rattle.network_steps.specs.declared.came.Came.{Came}
use Rattle.network_steps.proofs.Reports.{loss_is_line}
use Rattle.mote_text.specs.Code.Writing.{WritesOn}
use Rattle.mote_text.proofs.Writing.{lost_then, then_written, written_as}

-- what was put, the line of one more loss, and what is left after that
pub with_one : (came : Came) (net : NetworkView) {all left : List ℕ} (done later : List ℕ) → all ≡ done ++ left → is_loss came ≡ true → left ≡ loss_line came ++ later →
    all ≡ (done ++ came_line came net) ++ later
with_one came net done later so_far loss next =
    so_far ∙ (ap (λ (text : List ℕ). done ++ text) (next ∙ ap (λ (line : List ℕ). line ++ later) (loss_is_line came net loss))
    ∙ sym (append_assoc done (came_line came net) later))

pub one_put : (came : Came) (net : NetworkView) {g₀ d₀ g₁ d₁ g₂ d₂ all done left : List ℕ} (later : List ℕ) → all ≡ done ++ left → is_loss came ≡ true →
    left ≡ loss_line came ++ later → WritesOn g₀ d₀ g₁ d₁ done → WritesOn g₁ d₁ g₂ d₂ (came_line came net) →
    (more : List ℕ) × (all ≡ more ++ later) × WritesOn g₀ d₀ g₂ d₂ more
one_put came net {done = done} later so_far loss next first second =
    (done ++ came_line came net, with_one came net done later so_far loss next, then_written first second)

-- it is lost, and all after it
pub one_lost : (came : Came) (net : NetworkView) {g₀ d₀ g₁ d₁ g₂ lost all done left : List ℕ} (later : List ℕ) → all ≡ done ++ left → is_loss came ≡ true →
    left ≡ loss_line came ++ later → WritesOn g₀ d₀ g₁ d₁ done → WritesOn g₁ d₁ g₂ lost (came_line came net) → WritesOn g₀ d₀ g₂ (lost ++ later) all
one_lost came net {done = done} later so_far loss next first second =
    written_as (sym (with_one came net done later so_far loss next)) (lost_then later (then_written first second))

-- all of them, where the transcript isn't quiet
pub shown_all : (o : Option Sending) (net : NetworkView) → losses_left o net ≡ shown_losses false o net
shown_all None net = refl
shown_all (Some sending) net = refl

-- nothing was sent
pub none_by : (quiet : Bool) (o : Option Sending) (net : NetworkView) → is_some o ≡ false → shown_losses quiet o net ≡ []
none_by quiet None net e = refl
none_by quiet (Some sending) net e = absurd (cc)

module _ (came : Came) (old new : StepsView) (is : new ≡ record old { last = came; sending = new.sending; phase = Phase.Working }) (loss : is_loss came ≡ true)
    (next : losses_left old.sending old.net ≡ loss_line came ++ losses_left new.sending old.net) (net : NetworkView) where
  same_net : new.net ≡ old.net
  same_net = ap (λ (s : StepsView). s.net) is

  -- one more loss is reported
  pub loss_put : {g₀ d₀ g₁ d₁ g₂ d₂ all done : List ℕ} → all ≡ done ++ losses_left old.sending old.net → WritesOn g₀ d₀ g₁ d₁ done →
      WritesOn g₁ d₁ g₂ d₂ (came_line came net) → (more : List ℕ) × (all ≡ more ++ losses_left new.sending new.net) × WritesOn g₀ d₀ g₂ d₂ more
  loss_put so_far first second = rw same_net (one_put came net (losses_left new.sending old.net) so_far loss next first second)

  pub loss_lost : {g₀ d₀ g₁ d₁ g₂ lost all done : List ℕ} → all ≡ done ++ losses_left old.sending old.net → WritesOn g₀ d₀ g₁ d₁ done →
      WritesOn g₁ d₁ g₂ lost (came_line came net) → WritesOn g₀ d₀ g₂ (lost ++ losses_left new.sending old.net) all
  loss_lost so_far first second = one_lost came net (losses_left new.sending old.net) so_far loss next first second
