-- The pool of some flags, and malformed pools.
use Rattle.std.proofs.Common.{◌≡◌, true, false, [], ◌∷◌, ap, sym, refl}
use Rattle.std.specs.Prelude.{Some, None}
use Rattle.std.proofs.lemmas.Bool.{false≢true}
use Rattle.memb_core.specs.Code.PoolBytes.{is_live}
use Rattle.memb_core.specs.BlockPool.{BlockPool, first_unused, unused_count, unused_pool}
use Rattle.modules_c.specs.Memb.Flags.{flagged}

-- blocks of two bytes; those of block b are b and b
abbrev three : BlockPool
three = flagged 2 (λ b. b ∷ b ∷ []) (true ∷ false ∷ true ∷ [])

is_pool : three ≡ record { usable = 2; blocks = Some (0 ∷ 0 ∷ []) ∷ None ∷ Some (2 ∷ 2 ∷ []) ∷ [] }
is_pool = refl

first : first_unused three ≡ Some 1
first = refl

one_is_unused : unused_count three ≡ 1
one_is_unused = refl

no_such_block : is_live 3 three ≡ false
no_such_block = refl

none_used : flagged 2 (λ b. b ∷ b ∷ []) (false ∷ false ∷ []) ≡ unused_pool 2 2
none_used = refl

used_is_not_unused : flagged 2 (λ b. b ∷ b ∷ []) (false ∷ true ∷ []) ≡ unused_pool 2 2 → ⊥
used_is_not_unused e = absurd (used (ap (is_live 1) e))
  where
    used : true ≡ false → ⊥
    used e = false≢true (sym e)
