-- `none` keeps the pointer, and owns nothing.
use Rattle.std.proofs.Common.{◌≡◌, List, [], ◌∷◌, refl}
use base.Logic.{emp}
use types.Kit.{‵, raw, ◌$◌, ◌∵◌, !, qed, by, keep, drop, fjoin, use0}
use types.Run.{no_more, and_then, returns, enter}
use types.ByLocal.{alloc_all, pass_all, free_all, look_at, get, sets}
use types.Part.{agg}
use contract.Monad.{fact, fact_i}
use denote.Exit.{yes}
use denote.Signature.{plain}
use denote.RawPtr.{Ptr, RawPtr, rawptr_vals, rawptr_Tells}
use denote.Steps.{nothing}
use denote.Triple.Entry.{on_entry}
use denote.Triple.Walked.{Stays, stay_dropped, walk_of, Goes-dropped}
use Rattle.core.proofs.atomic.Steps.{Ptr-Good}
use Rattle.std.proofs.raw_atomic.Walks.{proved, leaves}
use Rattle.std.specs.Prelude.{Option, None}
use Rattle.insn.specs.declared.insn.Insn.{Insn}
use Rattle.capi.proofs.Word.{word, Data, made, word_good}
use Rattle.capi.specs.contracts.place.Place as place
use Rattle.capi.specs.contracts.place.Place.none as f
use Rattle.capi.specs.contracts.place.Place.none.Key.{name as #self}
use Rattle.capi.proofs.place.Place.none.Statement.{statement}
use Rattle.capi.proofs.place.Place.none.Code as code

abbrev hs : Stays f.ended.signature.params f.ended.kept
hs = (stay_dropped (plain (λ _. RawPtr)) yes, tt)

pub none_spec : {M : Type 1} → statement M
none_spec 𝓤 𝓛 𝓜 𝓡 wired =
    let c = f.clauses 𝓛 𝓜.mem 𝓡.returns in let W = walk_of 𝓛 f.ended hs c in let none : Option (List Insn) = None in
    proved 𝓛 f.ended hs c 𝓜 𝓡 (Goes-dropped 𝓛 0 (plain (λ _. RawPtr)) yes (λ κs x w. refl), tt) #self code.function (code.unfolded 𝓤 𝓛.H 𝓜 𝓡 wired)
    (λ κs. (rawptr_vals, tt)) (λ κs. (rawptr_Tells, tt)) (λ κs qs bounds a g are.
    let p : Ptr = a.0 in let z : W.Ghost = ((κs, qs, bounds, a, (rawptr_vals p, tt)), g) in let d : place.the_row.Denot = record { at = p; program = none } in
    qed 𝓛 (raw (on_entry 𝓛 f.signature κs qs a z.0.4) ∷ raw (emp 𝓤) ∷ []) ∵ drop ! $ drop ! $
    enter ! _ _ _ _ _ $ alloc_all ! (λ l. pass_all ! refl (Ptr-Good p, tt) $
    sets ! (agg ! (and_then ! (get ! refl) (no_more !))) refl (word_good p) $
    use0 𝓛 (raw (fact 𝓤 (none ≡ none))) (fact_i 𝓤 (none ≡ none) (emp 𝓤) refl) $
    nothing ! $ use0 𝓛 (‵ (Data.own_val (p, tt) (word p ∷ []))) (made 𝓛 p) $ fjoin ! $ nothing ! $ nothing ! $ fjoin ! $ nothing ! $
    returns ! (look_at ! 0 refl) $ free_all ! refl $ keep ! (0 ∷ 1 ∷ 2 ∷ 3 ∷ []) $ by ! (leaves 𝓛 f.ended hs c z (word p) d (tt, tt) (tt, tt))))
