-- `closed` owns nothing. Assumes `Logic`.
use Rattle.std.proofs.Common.{◌≡◌, ◌∷◌, refl, false, Option, None, []}
use Rattle.std.proofs.raw_atomic.Walks.{proved_at, leaves}
use Rattle.library_core.specs.contracts.held_network.HeldNetwork as network
use Rattle.library_core.specs.declared.open_network.OpenNetwork.{OpenNetwork as Held}
use base.Fml.{ftrue}
use base.Logic.{SProp}
use contract.Running.{tables}
use denote.RattleType.{owns}
use denote.RawPtr.{null_ptr}
use denote.Signature.{types_at}
use denote.Steps.{nothing}
use denote.Triple.Entry.{alive}
use denote.Triple.Walked.{Stays, walk_of}
use mir.Syntax.{Fn}
use mir.Val.{Val}
use types.ByLocal.{alloc_all, pass_all, free_all, look_at, sets}
use types.Kit.{‵, raw, ◌⊛◌, ◌$◌, ◌∵◌, !, qed, by, keep, split}
use types.Part.{agg}
use types.Run.{lit, false_lit, no_more, and_then, returns, enter}
use Rattle.library_core.proofs.Handles.{mote_val, mote_good, told}
use Rattle.library_core.proofs.NetworkHandles.{made}
use Rattle.library_core.proofs.held_network.HeldNetwork.closed.Statement.{statement}
use Rattle.library_core.proofs.held_network.HeldNetwork.closed.Code as code

pub closed_spec : {M : Type 1} → statement M
closed_spec 𝓤 𝓛 𝓜 𝓡 wired =
    let H = 𝓛.H in let 𝓣 = tables 𝓤 H 𝓜 𝓡 𝓡.env in
    let En = network.closed.ended in let c = network.closed.clauses 𝓛 𝓜.mem 𝓡.returns in
    let fn : Fn = code.function in let hs : Stays En.signature.params En.kept = tt in
    proved_at 𝓛 En hs c 𝓜 𝓡 tt network.closed.Key.name fn (code.unfolded 𝓤 H 𝓜 𝓡 wired) (λ z are.
    let Post : Val → SProp 𝓤 = (walk_of 𝓛 En hs c).post z in
    let entry = raw (alive 𝓛 En.signature z.0.0 z.0.1) ⊛ ‵ (owns (types_at En.signature.params z.0.0) z.0.3 z.0.4) in
    qed 𝓛 (entry ∷ ‵ ftrue ∷ []) ∵ split ! $ keep ! (0 ∷ []) $
    enter ! 𝓣.C 𝓣.Λ fn [] Post $ alloc_all ! (λ l. pass_all ! refl tt $
    sets ! (agg ! (and_then ! (lit ! tt) (and_then ! (false_lit !) (no_more !)))) refl (mote_good null_ptr false) $
    nothing ! $ made ! null_ptr false None $ told ! (◌≡◌ {A = Option Held} None None) refl $ nothing ! $
    returns ! (look_at ! 0 refl) $ free_all ! refl $ keep ! (3 ∷ 0 ∷ 2 ∷ 1 ∷ []) $
    by ! (leaves 𝓛 En hs c z (mote_val null_ptr false) (record { held = null_ptr; is_open = false; open_network = None }) tt tt)))
