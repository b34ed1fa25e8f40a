-- Schedulers that never occur.
use Rattle.process_core.proofs.Common.{◌≡◌, ℕ, true, false, List, [], ◌∷◌, eqb, arith, IsDistinct-head, Item, at_first, Scheduler, State, Process, IsWellFormed, at_boot}
use Rattle.mote_types.specs.declared.entry.Entry.{Entry}

with_parts : ℕ → List Process → List Item → Scheduler ℕ
with_parts applications processes agenda = record (at_boot applications) { processes = processes; agenda = agenda }

running : ℕ → Process
running p = record { number = p; state = State.Running; marked = false }

more_than_sixteen : IsWellFormed (with_parts 17 at_first []) → ⊥
unfolding with_parts
more_than_sixteen s = absurd (omega (arith, s.few))

-- a kernel process left the list
no_etimer : IsWellFormed (with_parts 1 (running 3 ∷ running 2 ∷ running 1 ∷ []) []) → ⊥
unfolding with_parts running
no_etimer s = absurd (let gone = s.mote.kernel 0 (omega arith) in cc)

no_packet : IsWellFormed (with_parts 1 (running 2 ∷ running 1 ∷ running 0 ∷ []) []) → ⊥
unfolding with_parts running
no_packet s = absurd (let gone = s.mote.kernel 3 (omega arith) in cc)

-- the mote has no such application
unknown_process : IsWellFormed (with_parts 1 (running 9 ∷ at_first) []) → ⊥
unfolding with_parts running
unknown_process s = absurd (omega (arith, s.mote.known 9 (λ absent. absurd (cc))))

second_of_one : IsWellFormed (with_parts 1 (running 5 ∷ at_first) []) → ⊥
unfolding with_parts running
second_of_one s = absurd (omega (arith, s.mote.known 5 (λ absent. absurd (cc))))

twice_on_the_list : IsWellFormed (with_parts 1 (running 4 ∷ running 4 ∷ at_first) []) → ⊥
unfolding with_parts running
twice_on_the_list s =
    let others : ◌≡◌ true false = (IsDistinct-head eqb 4 (4 ∷ 3 ∷ 2 ∷ 1 ∷ 0 ∷ []) s.distinct).0 in absurd (cc)

-- entries are shown by the layer above
shows_an_entry : IsWellFormed (with_parts 1 at_first (Item.Show Entry.Halt ∷ [])) → ⊥
unfolding with_parts
shows_an_entry s = absurd (let shown = s.nothing_shown in cc)
