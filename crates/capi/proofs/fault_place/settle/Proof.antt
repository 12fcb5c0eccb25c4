-- `settle` stores the fault if it has to and the address is not null. The result owns what is then at the address.
use Rattle.std.proofs.Common.{◌≡◌, T, ℕ, ◌<◌, ◌^◌, Bool, true, false, not, List, [], ◌∷◌, ◌++◌, refl, sym, ap, ◌∙◌, subst, lit<, w32}
use seplogic.Ra.Ura.{Ura}
use base.Fraction.{full_share}
use base.Logic.{SProp, ent, sep, emp, id⊢}
use base.Fml.{Fml, ftrue, fsep, fat}
use mir.Raw.{raw as bare}
use mir.Val.{Val, vint, vbool, vstruct, vcons, vnil, of_list, has_ty, WT}
use prog.Memory.{Memory}
use prog.Routine.{Routine}
use prog.Wp.{Calls, Loops, WpFn}
use types.Logic.{Logic, sem}
use types.Kit.{‵, raw, ◌⊛◌, at_ret, ◌$◌, ◌∵◌, !, qed, by, move, keep, drop, use0, use1, join, split, fsplit, fjoin, fpick, fpack, rewrite, suffices, done}
use types.Part.{whole, sub, agg}
use types.Run.{stop, fld, lit, of_opd, bin, un, store, assigns_last, first, blocks, branches, skips, exec, no_more, and_then, returns, enter}
use types.ByLocal.{alloc_all, pass_all, free_all, look_at, get, get_in, through, sets, env}
use contract.Monad.{Fun}
use contract.Running.{tables}
use denote.Builtin.{bool, u32}
use denote.Exit.{yes}
use denote.RattleType.{RattleType}
use denote.Laws.{Is}
use denote.Plain.{uint_Tells, bool_Tells}
use denote.Param.{layout}
use denote.RawPtr.{Ptr, block_ptr, null_ptr, ptr_val, lies_at, Testable, tests_null}
use denote.Shadow.{makes_shadow}
use denote.Signature.{Slot, plain}
use denote.Steps.{nothing}
use denote.Struct.Members.{Member}
use denote.Struct.Owning.{shape}
use denote.Struct.Struct.{Struct}
use denote.Triple.Walked.{Stays, stay_dropped, walk_of, says, ends_at, Goes-dropped}
use Rattle.core.proofs.cell.Inside.{one, spread, gather}
use Rattle.core.specs.Ptr.{if_non_null}
use Rattle.std.proofs.raw_atomic.Walks.{proved_at}
use Rattle.capi.specs.FaultPlaces.{fault_after}
use Rattle.capi.specs.declared.fault.NumberedFault.{NumberedFault}
use Rattle.capi.specs.contracts.fault.NumberedFault as fault
use Rattle.capi.proofs.fault.NumberedFault.TheLaws as laws
use Rattle.capi.specs.contracts.fault_place.FaultPlace as place
use Rattle.capi.specs.contracts.answer.Answer as answer
use Rattle.capi.specs.contracts.fault_place.settle as F
use Rattle.capi.specs.contracts.fault_place.settle.Key.{name as #self}
use Rattle.capi.proofs.fault_place.settle.Statement.{statement}
use Rattle.capi.proofs.fault_place.settle.Code as code

abbrev NF : RattleType
NF = fault.the_row

abbrev m : Member
m = record { row = NF; ty = layout NF }

abbrev From : Slot 0
From = plain (λ _. place.the_row)

abbrev hs : Stays (F.ended).signature.params (F.ended).kept
hs = (stay_dropped From yes, (stay_dropped (plain (λ _. NF)) yes, (stay_dropped (plain (λ _. bool)) yes, (stay_dropped (plain (λ _. u32)) yes, tt))))

-- ---- the machine values of the place and of the answer
abbrev place_word : Ptr → Val
place_word p = vstruct (vcons (ptr_val p) vnil)

place_told : (p : Ptr) (vs : List Val) → Is (Struct (shape place.the_type)) (p, tt) vs → vs ≡ place_word p ∷ []
place_told p vs is = is.1.0 ∙ ap (λ (ws : List Val). vstruct (of_list (ws ++ [])) ∷ []) is.1.1.0

place_good : (p : Ptr) → T (has_ty (layout place.the_row) (place_word p)) × WT (place_word p)
place_good (block_ptr b o) = (tt, (tt, tt))
place_good null_ptr = (tt, (record { fits = lit< tt }, tt))

abbrev Data : RattleType
Data = Struct (shape answer.the_type)

abbrev answer_word : ℕ → Val
answer_word n = vstruct (vcons (vint w32 n) vnil)

answer_good : (n : ℕ) → n < 2 ^ 32 → T (has_ty (layout answer.the_row) (answer_word n)) × WT (answer_word n)
answer_good n l = (tt, (record { fits = l }, tt))

answer_made : {M : Type 1} {𝓤 : Ura M} (𝓛 : Logic 𝓤) (n : ℕ) → n < 2 ^ 32 → ent 𝓤 (emp 𝓤) (sem 𝓛 (Data.own_val (n, tt) (answer_word n ∷ [])))
answer_made 𝓛 n l = makes_shadow 𝓛 (Data.own_val (n, tt) (answer_word n ∷ [])) (λ vss. (tt, ((tt, tt), tt))) ((vint w32 n ∷ [], tt), (refl, ((refl, l), tt)))

-- ---- which fault is there afterwards
is_told : (w : Bool) (x y : NumberedFault) → T w → x ≡ fault_after w x y
is_told true x y t = refl
is_told false x y t = absurd t

is_kept : (w : Bool) (x y : NumberedFault) → T (not w) → y ≡ fault_after w x y
is_kept true x y t = absurd t
is_kept false x y t = refl

module _ {M : Type 1} {𝓤 : Ura M} (𝓛 : Logic 𝓤) (at_mem : Memory → SProp 𝓤) (run : Routine → Fun 𝓤) (C : Calls 𝓤 𝓛.H) (Λ : Loops 𝓤 𝓛.H)
    (z : (walk_of 𝓛 F.ended hs (F.clauses 𝓛 at_mem run)).Ghost) where
  open 𝓛 use {H}

  abbrev Post : Val → SProp 𝓤
  Post = (walk_of 𝓛 F.ended hs (F.clauses 𝓛 at_mem run)).post z

  abbrev d : place.the_row.Denot
  d = z.0.3.0

  abbrev told : NumberedFault
  told = z.0.3.1.0

  abbrev writes : Bool
  writes = z.0.3.1.1.0

  abbrev status : ℕ
  status = z.0.3.1.1.1.0

  abbrev there : Ptr → NumberedFault → Fml
  there s x = if_non_null s (lies_at NF full_share s x)

  module _ (fits : status < 2 ^ 32) where
    out : (s : Ptr) → d.at ≡ s → Testable s → (x : NumberedFault) → x ≡ fault_after writes told d.before → ent 𝓤 (sem 𝓛 (there s x)) (Post (answer_word status))
    out s e may x is =
        qed 𝓛 (‵ (there s x) ∷ []) ∵ fpack ! (Testable s) (λ _. there s x) may $
        use0 𝓛 (‵ (Data.own_val (status, tt) (answer_word status ∷ []))) (answer_made 𝓛 status fits) $ fjoin ! $
        suffices ! _ (ends_at 𝓛 F.ended hs (F.clauses 𝓛 at_mem run) z (answer_word status) (record { status = status; place = s; fault = x }) (tt, (tt, (tt, (tt, tt)))) (tt, (tt, (tt, (tt, tt))))) $
        says ! (refl, sym e, is) $
        nothing ! $ nothing ! $ fjoin ! $ nothing ! $ fjoin ! $ nothing ! $ fjoin ! $ nothing ! $ fjoin ! $ join ! $ nothing ! $ join ! $ done !

    module _ (v : Val) (good : T (has_ty (layout NF) v) × WT v) where
      abbrev Runs : Ptr → SProp 𝓤
      Runs s = WpFn 𝓤 H C Λ code.function (place_word s ∷ v ∷ vbool writes ∷ vint w32 status ∷ []) Post

      abbrev own : Fml
      own = NF.own_val told (v ∷ [])

      at_each : (s : Ptr) → d.at ≡ s → Testable s → ent 𝓤 (sep 𝓤 (sem 𝓛 (there s d.before)) (sem 𝓛 own)) (Runs s)
      at_each null_ptr e may =
          qed 𝓛 (‵ ftrue ∷ ‵ own ∷ []) ∵ drop ! $ drop ! $
          enter ! C Λ code.function _ _ $ alloc_all ! (λ l. pass_all ! refl (place_good null_ptr, (good, ((tt, tt), ((tt, record { fits = fits }), tt)))) $
          sets ! (of_opd ! (get_in ! (fld ! refl (stop !)) (sub ! 0 refl (whole !)))) refl (tt, record { fits = lit< tt }) $
          sets ! (of_opd ! (get ! refl)) refl (tt, tt) $
          first ! $ branches ! (get ! refl)
          (λ t. sets ! (bin ! (get ! refl) (lit ! tt) (tests_null null_ptr may)) refl (tt, tt) $ sets ! (un ! (get ! refl) tt) refl (tt, tt) $
          branches ! (get ! refl) (λ u. absurd u) (λ u. skips ! $ exec ! C Λ (env code.Mir.locals l) code.Mir.t-4 (at_ret _ Post) $
          sets ! (agg ! (and_then ! (get ! refl) (no_more !))) refl (answer_good status fits) $
          nothing ! $ returns ! (look_at ! 0 refl) $ free_all ! refl $ by ! (out null_ptr e may _ refl)))
          (λ t. skips ! $ exec ! C Λ (env code.Mir.locals l) code.Mir.t-4 (at_ret _ Post) $
          sets ! (agg ! (and_then ! (get ! refl) (no_more !))) refl (answer_good status fits) $
          nothing ! $ returns ! (look_at ! 0 refl) $ free_all ! refl $ by ! (out null_ptr e may _ refl)))
      at_each (block_ptr b o) e may =
          qed 𝓛 (‵ (lies_at NF full_share (block_ptr b o) d.before) ∷ ‵ own ∷ []) ∵
          spread m ! (laws.the_row_laws.lawful 𝓛) d.before b o (λ w ok.
          -- [the cell; what the fault in it owns; what the new fault owns]
          enter ! C Λ code.function _ _ $ alloc_all ! (λ l. pass_all ! refl (place_good (block_ptr b o), (good, ((tt, tt), ((tt, record { fits = fits }), tt)))) $
          sets ! (of_opd ! (get_in ! (fld ! refl (stop !)) (sub ! 0 refl (whole !)))) refl (tt, tt) $
          sets ! (of_opd ! (get ! refl)) refl (tt, tt) $
          first ! $ branches ! (get ! refl)
          (λ t. sets ! (bin ! (get ! refl) (lit ! tt) (tests_null (block_ptr b o) may)) refl (tt, tt) $ sets ! (un ! (get ! refl) tt) refl (tt, tt) $
          branches ! (get ! refl) (λ u. blocks ! $ use1 𝓛 (‵ (fat full_share (layout NF) b o w)) (𝓛.laws.raw_at full_share (layout NF) b o w) $
          assigns_last ! (of_opd ! (get ! refl)) (through ! refl (stop !)) (store ! 0 refl good) $
          use1 𝓛 (‵ (fat full_share (bare (layout NF)) b o v)) (𝓛.laws.at_raw full_share (layout NF) b o v) $
          exec ! C Λ (env code.Mir.locals l) code.Mir.t-4 (at_ret _ Post) $
          sets ! (agg ! (and_then ! (get ! refl) (no_more !))) refl (answer_good status fits) $
          returns ! (look_at ! 0 refl) $ free_all ! refl $ keep ! (0 ∷ 2 ∷ []) $ gather m ! told v b o $
          by ! (out (block_ptr b o) e may told (is_told writes told d.before t))) (λ u. absurd u))
          (λ t. skips ! $ exec ! C Λ (env code.Mir.locals l) code.Mir.t-4 (at_ret _ Post) $
          sets ! (agg ! (and_then ! (get ! refl) (no_more !))) refl (answer_good status fits) $
          returns ! (look_at ! 0 refl) $ free_all ! refl $ keep ! (0 ∷ 1 ∷ []) $ gather m ! d.before w b o $
          by ! (out (block_ptr b o) e may d.before (is_kept writes told d.before t)))))

pub settle_spec : {M : Type 1} → statement M
settle_spec 𝓤 𝓛 𝓜 𝓡 wired =
    let H = 𝓛.H in let 𝓣 = tables 𝓤 H 𝓜 𝓡 𝓡.env in let c = F.clauses 𝓛 𝓜.mem 𝓡.returns in
    proved_at 𝓛 F.ended hs c 𝓜 𝓡 (Goes-dropped 𝓛 0 From yes (λ κs x f. refl), (Goes-dropped 𝓛 0 (plain (λ _. NF)) yes (λ κs x f. refl), (Goes-dropped 𝓛 0 (plain (λ _. bool)) yes (λ κs x f. refl), (Goes-dropped 𝓛 0 (plain (λ _. u32)) yes (λ κs x f. refl), tt))))
    #self code.function (code.unfolded 𝓤 H 𝓜 𝓡 wired) (λ z are.
    let d : place.the_row.Denot = z.0.3.0 in let told : NumberedFault = z.0.3.1.0 in let writes : Bool = z.0.3.1.1.0 in let status : ℕ = z.0.3.1.1.1.0 in
    let h = one (layout NF) z.0.4.1.0 ((laws.the_row_laws.lawful 𝓛).typed told z.0.4.1.0 are.1.0) in
    let ew : z.0.4.0 ≡ place_word d.at ∷ [] = place_told d.at z.0.4.0 are.0.0 in
    let eb : z.0.4.1.1.0 ≡ vbool writes ∷ [] = bool_Tells writes z.0.4.1.1.0 are.1.1.0 in
    let es : z.0.4.1.1.1.0 ≡ vint w32 status ∷ [] = uint_Tells w32 status z.0.4.1.1.1.0 are.1.1.1.0 in
    let Post : Val → SProp 𝓤 = (walk_of 𝓛 F.ended hs c).post z in let Run : List Val → SProp 𝓤 = λ ws. WpFn 𝓤 H 𝓣.C 𝓣.Λ code.function ws Post in
    let ws : List Val = place_word d.at ∷ h.0 ∷ vbool writes ∷ vint w32 status ∷ [] in
    qed 𝓛 ((‵ ftrue ⊛ ‵ (fsep (place.the_row.own_val d z.0.4.0) (fsep (NF.own_val told z.0.4.1.0) (fsep (bool.own_val writes z.0.4.1.1.0) (fsep (u32.own_val status z.0.4.1.1.1.0) ftrue))))) ∷ raw (emp 𝓤) ∷ []) ∵
    split ! $ drop ! $ fsplit ! $ fsplit ! $ drop ! $ fpick ! (λ may. move ! (1 ∷ []) $ fsplit ! $
    rewrite ! 0 (λ (us : List Val). ‵ (NF.own_val told us)) h.1 refl $ keep ! (2 ∷ 0 ∷ []) $
    suffices ! (Run ws) (subst (λ (us : List Val). ent 𝓤 (Run ws) (Run us)) (sym (λ i. ew i ++ (h.1 i ++ (eb i ++ (es i ++ []))))) (id⊢ 𝓤 (Run ws))) $
    by ! (at_each 𝓛 𝓜.mem 𝓡.returns 𝓣.C 𝓣.Λ z are.1.1.1.0.1 h.0 h.2 d.at refl may)))
