-- `into_parts` keeps the pointer, and the result owns the program at this address.
use Rattle.std.proofs.Common.{◌≡◌, List, [], ◌∷◌, ◌++◌, refl, sym, ap, ◌∙◌, subst}
use mir.Raw.{raw as bare}
use mir.Val.{Val}
use base.Logic.{SProp, ent, emp, id⊢, never, fst∗}
use base.Fml.{ftrue, fsep}
use prog.Wp.{WpFn}
use types.Logic.{sem}
use types.Kit.{‵, raw, ◌⊛◌, ◌$◌, ◌∵◌, !, qed, by, move, keep, drop, use0, split, fsplit, fsplit3, fjoin, rewrite, suffices}
use types.Part.{whole, sub, agg}
use types.Run.{stop, fld, no_more, and_then, of_opd, returns, enter}
use types.ByLocal.{alloc_all, pass_all, free_all, look_at, get, get_in, sets}
use contract.Monad.{fact, fact_i}
use contract.Running.{tables}
use denote.Exit.{yes}
use denote.RattleType.{RattleType}
use denote.RawPtr.{Ptr, block_ptr, null_ptr, in_a_block}
use denote.Param.{layout}
use denote.Signature.{type_at, plain}
use denote.Steps.{heard, nothing}
use denote.Triple.Walked.{Stays, stay_dropped, walk_of, Goes-dropped}
use Rattle.core.proofs.cell.Inside.{one}
use Rattle.std.proofs.raw_atomic.Walks.{proved_at, leaves}
use Rattle.std.specs.Prelude.{◌≢◌, Option, Some, None}
use Rattle.std.specs.Box.Ownership.{box_owns}
use Rattle.std_alloc.proofs.BoxSteps.Form as box
use Rattle.std_alloc.proofs.BoxSteps.Steps.{box_in}
use Rattle.core.proofs.alloc.Calls.{token}
use Rattle.std_heap.specs.contracts.Global as Heap
use Rattle.std_heap.proofs.Global.TheLaws as heap
use Rattle.insn.specs.declared.insn.Insn.{Insn}
use Rattle.capi.proofs.AsBox.{E, FromPlace as From}
use Rattle.capi.proofs.Word as place
use Rattle.capi.specs.Owned.{place_owns}
use Rattle.capi.specs.contracts.place.Place as Place
use Rattle.capi.specs.contracts.place.Place.into_parts as F
use Rattle.capi.specs.contracts.place.Place.into_parts.Key.{name as #self}
use Rattle.capi.proofs.place.Place.into_parts.Statement.{statement}
use Rattle.capi.proofs.place.Place.into_parts.Code as code

abbrev hs : Stays (F.ended).signature.params (F.ended).kept
hs = (stay_dropped From yes, (stay_dropped (plain (λ _. Heap.the_row)) yes, tt))

pub into_parts_spec : {M : Type 1} → statement M
into_parts_spec 𝓤 𝓛 𝓜 𝓡 wired =
    let H = 𝓛.H in let 𝓣 = tables 𝓤 H 𝓜 𝓡 𝓡.env in let c = F.clauses 𝓛 𝓜.mem 𝓡.returns in let fn = code.function in let W = walk_of 𝓛 F.ended hs c in let Z : RattleType = Heap.the_row in let R : RattleType = box.R E in
    proved_at 𝓛 F.ended hs c 𝓜 𝓡 (Goes-dropped 𝓛 0 From yes (λ κs x f. refl), (Goes-dropped 𝓛 0 (plain (λ _. Z)) yes (λ κs x f. refl), tt)) #self fn (code.unfolded 𝓤 H 𝓜 𝓡 wired) (λ z are.
    let Post : Val → SProp 𝓤 = W.post z in let Run : List Val → SProp 𝓤 = λ ws. WpFn 𝓤 H 𝓣.C 𝓣.Λ fn ws Post in let To = type_at (F.signature).result tt in
    let d : Place.the_row.Denot = z.0.3.0 in let a : Z.Denot = z.0.3.1.0 in let h = one (layout Z) z.0.4.1.0 ((heap.the_row_laws.lawful 𝓛).typed a z.0.4.1.0 are.1.0) in
    qed 𝓛 ((‵ ftrue ⊛ ‵ (fsep (Place.the_row.own_val d z.0.4.0) (fsep (Z.own_val a z.0.4.1.0) ftrue))) ∷ raw (fact 𝓤 (d.program ≢ None)) ∷ []) ∵
    move ! (1 ∷ []) $ heard ! (d.program ≢ None) (λ full. let there = place.what_is_there d.program full in let x : List Insn = there.0 in split ! $ drop ! $ fsplit3 ! $
    fsplit ! $ drop ! $ rewrite ! 0 (λ (o : Option (List Insn)). ‵ (place_owns d.at o)) there.1 refl $ rewrite ! 1 (λ (us : List Val). ‵ (Z.own_val a us)) h.1 refl $
    in_a_block ! d.at (λ p. box_owns (token E.al a) R p x) (fst∗ 𝓤 (never 𝓤) (sem 𝓛 (token E.al a (bare (box.τ E)) null_ptr))) (λ b o e.
    let v : box.D E = record { ptr = block_ptr b o; alloc = a; value = x } in let w : Val = box.word E h.0 b o in let w' : Val = place.word (block_ptr b o) in let made : To.Denot = record { ptr = block_ptr b o; alloc = a; value = x } in
    let ew : z.0.4.0 ≡ w' ∷ [] = place.told d.at z.0.4.0 are.0.0 ∙ ap (λ (p : Ptr). place.word p ∷ []) e in
    fsplit ! $ box_in E ! v b o x refl refl $
    suffices ! (Run (w' ∷ h.0 ∷ [])) (subst (λ (us : List Val). ent 𝓤 (Run (w' ∷ h.0 ∷ [])) (Run us)) (sym (λ i. ew i ++ (h.1 i ++ []))) (id⊢ 𝓤 (Run (w' ∷ h.0 ∷ [])))) $
    enter ! 𝓣.C 𝓣.Λ fn (w' ∷ h.0 ∷ []) Post $ alloc_all ! (λ l. pass_all ! refl ((tt, (tt, tt)), (h.2, tt)) $
    sets ! (of_opd ! (get_in ! (fld ! refl (stop !)) (sub ! 0 refl (whole !)))) refl (tt, tt) $ sets ! (of_opd ! (get ! refl)) refl (tt, tt) $
    sets ! (agg ! (and_then ! (get ! refl) (and_then ! (get ! refl) (no_more !)))) refl (box.box_typed E h.0 b o h.2) $
    use0 𝓛 (raw (fact 𝓤 (Some x ≡ d.program))) (fact_i 𝓤 (Some x ≡ d.program) (emp 𝓤) (sym there.1)) $ nothing ! $ nothing ! $ fjoin ! $ nothing ! $ fjoin ! $ nothing ! $
    returns ! (look_at ! 0 refl) $ free_all ! refl $ keep ! (0 ∷ 1 ∷ 3 ∷ 2 ∷ []) $ by ! (leaves 𝓛 F.ended hs c z w made (tt, (tt, tt)) (tt, (tt, tt)))))))
