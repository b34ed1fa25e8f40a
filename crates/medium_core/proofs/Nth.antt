-- A link that loses every n-th frame loses exactly those.
use Rattle.std.proofs.Common.{◌≡◌, ℕ, zero, suc, ◌+◌, ◌-◌, ◌*◌, ◌%◌, ◌<◌, ◌==◌, ◌||◌, List, [], ◌∷◌, refl, ap, sym, ◌∙◌, arith, Bool, false, if◌then◌else◌}
use Rattle.std.proofs.Math.Nat.{suc-mul}
use Rattle.std.proofs.lemmas.Bool.Decides.{nat_tests}
use Rattle.std.proofs.lemmas.Nat.{mod-mul-add}
use Rattle.medium_core.specs.declared.link.Link.{Link}
use Rattle.medium_core.specs.declared.link.Loss.{Loss}
use Rattle.medium_core.specs.Laws.{Frame, but_every_nth, through}
use Rattle.medium_core.specs.Links.{after_frame, is_lost, is_lost_by, loss_after}

-- with none left to get through, the number of the next frame is a multiple
lost_at : (n i r : ℕ) (link : Link) → link.loss ≡ Loss.EveryNth n 0 → 0 < n → i ≡ r * n + n → is_lost link ≡ ((i % n) == 0)
lost_at n i r link e some is =
    let whole : i ≡ suc r * n + 0 = let h = suc-mul r n in omega (arith, h, is) in
    let none : i % n ≡ 0 = ap (λ (k : ℕ). k % n) whole ∙ mod-mul-add (suc r) n 0 some in
    ap is_lost_by e ∙ sym (ap (λ (k : ℕ). k == 0) none)

-- with some left, it is none
kept_at : (n i r k : ℕ) (link : Link) → link.loss ≡ Loss.EveryNth n (suc k) → suc k < n → i + suc k ≡ r * n + n → is_lost link ≡ ((i % n) == 0)
kept_at n i r k link e below is =
    let over : i ≡ r * n + (n - suc k) = omega (arith, is, below) in
    let rest : i % n ≡ n - suc k = ap (λ (j : ℕ). j % n) over ∙ mod-mul-add r n (n - suc k) (omega (arith, below)) in
    let one : is_lost link ≡ false = ap is_lost_by e ∙ grind (arith, nat_tests) in
    let other : ((i % n) == 0) ≡ false = ap (λ (j : ℕ). j == 0) rest ∙ grind (arith, nat_tests, below) in
    one ∙ sym other

after_kept : (n k : ℕ) → loss_after (Loss.EveryNth n (suc k)) ≡ Loss.EveryNth n k
after_kept n k = ap (λ (j : ℕ). Loss.EveryNth n j) (grind (arith, nat_tests))

same_choice : (frame : Frame) (a b c : Bool) (xs ys : List Frame) → a ≡ b → xs ≡ ys →
    (if a || c then xs else frame ∷ xs) ≡ (if b || c then ys else frame ∷ ys)
same_choice frame a b c xs ys e f = rw (e, f) refl

pub but_nth : (n i r left : ℕ) (link : Link) (frames : List Frame) → link.loss ≡ Loss.EveryNth n left → left < n → i + left ≡ r * n + n →
    through link frames ≡ but_every_nth n i frames
but_nth n i r left link [] e below is = refl
but_nth n i r zero link (frame ∷ frames) e below is =
    let more = suc-mul r n in
    same_choice frame (is_lost link) ((i % n) == 0) (frame.free == 0) _ _ (lost_at n i r link e below (omega (arith, is)))
    (but_nth n (i + 1) (suc r) (n - 1) (after_frame frame.free link) frames (ap loss_after e) (omega (arith, below)) (omega (arith, below, is, more)))
but_nth n i r (suc k) link (frame ∷ frames) e below is =
    same_choice frame (is_lost link) ((i % n) == 0) (frame.free == 0) _ _ (kept_at n i r k link e below is)
    (but_nth n (i + 1) r k (after_frame frame.free link) frames (ap loss_after e ∙ after_kept n k) (omega (arith, below)) (omega (arith, is)))
