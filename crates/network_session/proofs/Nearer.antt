-- Each step brings a network nearer to rest.
use Rattle.std.proofs.Common.{◌≡◌, ℕ, suc, ◌+◌, ◌-◌, ◌<◌, ◌≤◌, ◌==◌, List, length, set, slice_get, refl, ap, subst, ◌∙◌, arith, Bool, true, false, Option, Some, None, nat_lt, if◌then◌else◌}
use Rattle.std.proofs.lemmas.List.{length-set}
use Rattle.std.proofs.lemmas.Bool.Decides.{nat_tests}
use Rattle.network_session.specs.Alarms.{first_come}
use Rattle.mote_types.specs.declared.call.Call.{Call}
use Rattle.mote_session.specs.SessionView.{SessionView}
use Rattle.mote_session.specs.declared.session.Next.{Next}
use Rattle.network_session.specs.Code.Measures.{IsNearerRest, is_last, left_at, left_at_work, left_of, to_do}
use Rattle.network_session.specs.Network.{NetworkView, wakes_of}
use Rattle.network_session.specs.Schedule.{due_now, due_step, is_rest}
use Rattle.network_session.specs.Steps.{IsNetworkSubmitted, Steps, Worked, is_work}
use Rattle.network_session.specs.declared.outcome.Outcome.{Outcome}
use Rattle.network_session.proofs.Due.{due_is}
use Rattle.network_session.proofs.Timely.{not_waking}
use Rattle.network_session.proofs.Working.{there_after}

left_is : (net : NetworkView) (m : ℕ) (mote : SessionView) → net.active ≡ Some m → slice_get net.motes m ≡ Some mote →
    left_at_work net ≡ suc (suc mote.entries_left)
left_is net m mote active there = ap (left_at net.motes) active ∙ ap (λ (o : Option SessionView). suc (left_of o)) there

left_idle : (net : NetworkView) → net.active ≡ None → left_at_work net ≡ 0
left_idle net idle = ap (left_at net.motes) idle

same_to_do : (old new : NetworkView) → length new.motes ≡ length old.motes → new.started ≡ old.started → new.rounds ≡ old.rounds → to_do new ≡ to_do old
same_to_do old new motes started rounds = rw (motes, started, rounds) refl

same_length : (old : List SessionView) (m : ℕ) (after : SessionView) (new : List SessionView) → new ≡ set old m after → length new ≡ length old
same_length old m after new e = ap length e ∙ length-set old m after

worked_to_do : (m : ℕ) (next : Next) (old new : NetworkView) → Worked m next old new → to_do new ≡ to_do old
worked_to_do m next old new w =
    same_to_do old new (same_length old.motes m w.worked.after new.motes w.worked.others)
    (ap (λ (v : NetworkView). v.started) w.result) (ap (λ (v : NetworkView). v.rounds) w.result)

pub nearer_entry : (m : ℕ) (old new : NetworkView) → Worked m Next.Entry old new → IsNearerRest old new
nearer_entry m old new w =
    let before = left_is old m w.worked.before w.was_active w.worked.mote in
    let active : new.active ≡ Some m = ap (λ (v : NetworkView). v.active) w.result in
    let after = left_is new m w.worked.after active (there_after m old.motes new.motes w.worked.before w.worked.after w.worked.mote w.worked.others) in
    record { nearer = omega (arith, before, after, w.worked.advances.left); same = worked_to_do m Next.Entry old new w }

nearer_idle : (m : ℕ) (next : Next) (old new : NetworkView) → Worked m next old new → new.active ≡ None → IsNearerRest old new
nearer_idle m next old new w idle =
    let before = left_is old m w.worked.before w.was_active w.worked.mote in
    let after = left_idle new idle in
    record { nearer = omega (arith, before, after); same = worked_to_do m next old new w }

pub nearer_turn : (m : ℕ) (call : Call) (old mid new : NetworkView) → Worked m Next.Turn old mid → IsNetworkSubmitted call mid new → IsNearerRest old new
nearer_turn m call old mid new w a =
    let active : mid.active ≡ Some m = ap (λ (v : NetworkView). v.active) w.result in
    let own : a.m ≡ m = let e = a.was_active in let f = active in cc in
    let opened = there_after m old.motes mid.motes w.worked.before w.worked.after w.worked.mote w.worked.others in
    let held : slice_get mid.motes m ≡ Some a.submitted.before = subst (λ (i : ℕ). slice_get mid.motes i ≡ Some a.submitted.before) own a.submitted.mote in
    let same : a.submitted.before ≡ w.worked.after = cc in
    let closed = there_after a.m mid.motes new.motes a.submitted.before a.submitted.after a.submitted.mote a.submitted.others in
    let before = left_is old m w.worked.before w.was_active w.worked.mote in
    let after = left_is new a.m a.submitted.after (ap (λ (v : NetworkView). v.active) a.result ∙ a.was_active) closed in
    let entries : a.submitted.before.entries_left ≡ w.worked.after.entries_left = ap (λ (v : SessionView). v.entries_left) same in
    let kept : to_do new ≡ to_do mid =
    same_to_do mid new (same_length mid.motes a.m a.submitted.after new.motes a.submitted.others)
    (ap (λ (v : NetworkView). v.started) a.result) (ap (λ (v : NetworkView). v.rounds) a.result) in
    record {
      nearer = omega (arith, before, after, entries, w.worked.advances.left, a.submitted.submitted.left);
      same = kept ∙ worked_to_do m Next.Turn old mid w;
    }

-- a step of a mote at work, but for a turn
pub nearer_worked : (m : ℕ) (next : Next) (old new : NetworkView) → Worked m next old new → (next ≡ Next.Turn → ⊥) → IsNearerRest old new
nearer_worked m Next.Turn old new w apart = absurd (apart refl)
nearer_worked m Next.Entry old new w apart = nearer_entry m old new w
nearer_worked m Next.Rest old new w apart = nearer_idle m Next.Rest old new w (ap (λ (v : NetworkView). v.active) w.result)
nearer_worked m Next.Halted old new w apart = nearer_idle m Next.Halted old new w (ap (λ (v : NetworkView). v.active) w.result)

record StartsNext (net : NetworkView) (m : ℕ) : Type 0 where
  is : m ≡ net.started
  within : net.started < length net.motes

starts_next : (net : NetworkView) (m : ℕ) → Outcome.Started m ≡ due_step net → StartsNext net m
starts_next net m h = by_tests (nat_lt net.started (length net.motes)) (net.rounds == 0) (is_rest (due_now net)) refl h
  where
    by_tests : (s r t : Bool) → nat_lt net.started (length net.motes) ≡ s →
        Outcome.Started m ≡ (if s then Outcome.Started net.started else if r then (if t then Outcome.Rest else Outcome.Exhausted) else due_now net) → StartsNext net m
    by_tests true r t e h = record { is = cc; within = grind (arith, nat_tests) }
    by_tests false true true e h = absurd (cc)
    by_tests false true false e h = absurd (cc)
    by_tests false false t e h = absurd (not_waking net m (first_come net.air.clock (wakes_of net.motes)) h)

round_taken : (old new : NetworkView) → length new.motes ≡ length old.motes → new.started ≡ old.started → new.rounds ≡ old.rounds - 1 → 1 ≤ old.rounds →
    to_do new < to_do old
round_taken old new motes started rounds some = omega (arith, motes, started, rounds, some)

-- a step where no mote is at work takes a start or a round
pub fewer_to_do : (x : Outcome) (old new : NetworkView) → Steps x old new → x ≡ due_step old → is_work x ≡ false → is_last x ≡ false → to_do new < to_do old
fewer_to_do (Outcome.Started m) old new s due work on =
    let next = starts_next old m due in
    let started : new.started ≡ m + 1 = ap (λ (v : NetworkView). v.started) s in
    let rounds : new.rounds ≡ old.rounds = ap (λ (v : NetworkView). v.rounds) s in
    let motes : length new.motes ≡ length old.motes = ap (λ (v : NetworkView). length v.motes) s in
    omega (arith, started, rounds, motes, next.is, next.within)
fewer_to_do (Outcome.Woken m) old new s due work on =
    round_taken old new (same_length old.motes m s.told.after new.motes s.told.others)
    (ap (λ (v : NetworkView). v.started) s.result) (ap (λ (v : NetworkView). v.rounds) s.result) (due_is old (Outcome.Woken m) refl due).some_left
fewer_to_do (Outcome.Heard m) old new s due work on =
    round_taken old new (same_length old.motes m s.handed.after new.motes s.handed.others)
    (ap (λ (v : NetworkView). v.started) s.result) (ap (λ (v : NetworkView). v.rounds) s.result) (due_is old (Outcome.Heard m) refl due).some_left
fewer_to_do (Outcome.Missed from to) old new s due work on =
    round_taken old new (ap (λ (v : NetworkView). length v.motes) s) (ap (λ (v : NetworkView). v.started) s) (ap (λ (v : NetworkView). v.rounds) s)
    (due_is old (Outcome.Missed from to) refl due).some_left
fewer_to_do Outcome.Clock old new s due work on =
    round_taken old new (ap (λ (v : NetworkView). length v.motes) s) (ap (λ (v : NetworkView). v.started) s) (ap (λ (v : NetworkView). v.rounds) s)
    (due_is old Outcome.Clock refl due).some_left
fewer_to_do Outcome.Rest old new s due work on = absurd (cc)
fewer_to_do Outcome.Exhausted old new s due work on = absurd (cc)
fewer_to_do (Outcome.Worked m next) old new s due work on = absurd (cc)
