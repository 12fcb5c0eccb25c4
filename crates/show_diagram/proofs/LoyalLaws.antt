-- Strokes of loyal generals are not drawn in red.
use Rattle.std.proofs.Common.{ℕ, zero, suc, ◌+◌, ◌<◌, ◌≤◌, ◌≡◌, ◌≢◌, Bool, true, false, not, List, [], ◌∷◌, ◌++◌, length, length-append, refl, sym, ap, subst, ◌∙◌, arith, None, Option, Some}
use Rattle.std.proofs.lemmas.Bool.{cond_both, eq-eqb, eqb-false, eqb-true, not-false, or_parts}
use Rattle.std.proofs.lemmas.List.Elements.{All-from_recursion}
use Rattle.std.specs.Prelude.{◌==◌, codes, filter}
use Rattle.std.specs.List.{AllByRecursion}
use Rattle.label.specs.Labels.{on, others}
use Rattle.label.specs.Oral.{IsFaithful, Messages, heard, taken}
use Rattle.label.proofs.Counting.{others-on}
use Rattle.book.specs.Conditions.{is_told}
use Rattle.book.specs.Grammar.{is_place}
use Rattle.book.specs.Table.{MessageTable, told}
use Rattle.book.proofs.Places.{all_flat}
use Rattle.book.proofs.TreeLemmas.{place_of_tree}
use Rattle.show_tree.proofs.PlaceLemmas.{place_next, teller_told}
use Rattle.round.specs.Letters.{messages}
use Rattle.round.specs.Scenario.{Scenario, is_traitor}
use Rattle.book.specs.WrittenLaws.{IsTableOf}
use Rattle.book.proofs.Reread.{apart_first, first_label, place_from}
use Rattle.world.specs.World.{opening, run}
use Rattle.world.proofs.Agreeing.{proved_worlds_agree}
use Rattle.show_diagram.specs.declared.stroke.Stroke.{Stroke}
use Rattle.show_diagram.specs.declared.told_order.Telling.{Telling}
use Rattle.show_diagram.specs.Facts.{strokes_of, telling_at, tellings_below, tellings_by, tellings_of}
use Rattle.show_diagram.specs.Laws.{BlamesTraitors, IsDrawnHonest, OnlyTraitorsDiffer}
use Rattle.show_diagram.specs.Lists.{is_in, is_lie, is_same, labels_of, list_behind, lists_of, lists_to, teller}
use Rattle.show_diagram.specs.Order.{arranged, firsts}
use Rattle.show_diagram.specs.Words.{kind_of}
use Rattle.show_diagram.proofs.OrderLemmas.{all_arranged, all_filter, all_firsts}
use Rattle.show_diagram.proofs.RowLemmas.{all_range, all_strokes}

-- Proves that `differs` is false if the received order is the expected one.
told_so : (order : ℕ) (o : Option ℕ) → o ≡ Some order → not (is_told order o) ≡ false
told_so order o e = ap (λ (x : Option ℕ). not (is_told order x)) e ∙ ap not (eq-eqb order order refl)

-- Proves that the order a general took for a label that is not empty is the one that he received.
took : (M : Messages) (order : ℕ) (w : List ℕ) (g : ℕ) → 0 < length w → heard M order w g ≡ taken M w g
took M order [] g some = absurd (omega arith)
took M order (x ∷ xs) g some = refl

-- Proves that a general who is not the commander has another number.
apart : (c p : ℕ) → (p == c) ≡ false → p ≢ c
apart c p e = eqb-false p c e

-- States that a stroke of a loyal general does not differ.
abbrev IsPlain : (ℕ → Bool) → Stroke → Type 0
IsPlain traitor stroke = traitor stroke.teller ≡ false → stroke.differs ≡ false

-- States that a message of a loyal general does not differ.
abbrev IsHonest : (ℕ → Bool) → Telling → Type 0
IsHonest traitor telling = traitor telling.teller ≡ false → telling.differs ≡ false

drawn_plain : (differs : Bool) (o : Option ℕ) → differs ≡ false → kind_of differs o ≡ codes "told"
drawn_plain differs o e = ap (λ (b : Bool). kind_of b o) e

-- ---- a campaign with faithful loyal generals, and its message table

module _ (M : Messages) (order : ℕ) (traitor : ℕ → Bool) (t : MessageTable)
    (same : (w : List ℕ) (p : ℕ) → is_place t w p ≡ true → told t.messages w p ≡ M w p)
    (inside : t.commander < t.generals)
    (faithful : (g : ℕ) → g < t.generals → traitor g ≡ false → IsFaithful t.generals t.commander t.bound order M g) where
  -- Proves that a loyal general sends the order that he took for a label.
  tells_so : (w : List ℕ) (j p : ℕ) → length w ≤ t.bound → j < t.generals → is_place t (w ++ j ∷ []) p ≡ true → traitor j ≡ false → told t.messages (w ++ j ∷ []) p ≡ Some (heard M order w j)
  tells_so w j p short general place loyal =
      let own = place_of_tree t M (w ++ j ∷ []) p place in
      same (w ++ j ∷ []) p place ∙ faithful j general loyal w p own.0.label short own.1 own.0.without

  telling_honest : (w : List ℕ) (j p : ℕ) → 0 < length w → length w ≤ t.bound → j < t.generals → is_place t (w ++ j ∷ []) p ≡ true → IsHonest traitor (telling_at t w j p)
  telling_honest w j p some short general place loyal =
      let his : told t.messages w j ≡ M w j = same w j (teller_told t w j p some place) in
      let took_it : heard M order w j ≡ taken (told t.messages) w j = took M order w j some ∙ ap (λ (o : Option ℕ). taken (λ v q. o) w j) (sym his) in
      told_so (taken (told t.messages) w j) (told t.messages (w ++ j ∷ []) p) (tells_so w j p short general place loyal ∙ ap Some took_it)

  all_below : (k : ℕ) (w : List ℕ) (p : ℕ) → 0 < length w → length w + k ≡ t.bound + 1 → is_place t w p ≡ true → AllByRecursion (IsHonest traitor) (tellings_below t k w p)
  unfolding tellings_below
  all_below zero w p some size place = tt
  all_below (suc k) w p some size place =
      all_flat (IsHonest traitor) (tellings_by t k w p) (others t.generals (p ∷ w))
      (λ j there.
      let off = others-on t.generals (p ∷ w) j there in
      let parts = or_parts (p == j) (on w j) off.1 in
      let next : is_place t (w ++ j ∷ []) p ≡ true = place_next t w j p place (omega arith) off.0 parts.1 (λ e. eqb-false p j parts.0 (sym e)) in
      let long : length (w ++ j ∷ []) ≡ length w + 1 = length-append w (j ∷ []) in
      (telling_honest w j p some (omega arith) off.0 next, all_below k (w ++ j ∷ []) p (omega arith) (omega arith) next))

  all_told : (p : ℕ) → p < t.generals → p ≢ t.commander → AllByRecursion (IsHonest traitor) (tellings_of t order p)
  unfolding tellings_of
  all_told p general lieutenant =
      let place : is_place t (t.commander ∷ []) p ≡ true =
      place_from t.generals t.bound t.commander (t.commander ∷ []) p (first_label t.generals t.commander inside) general (apart_first t.commander p lieutenant) (omega arith)
      in (
        λ loyal. told_so order (told t.messages (t.commander ∷ []) p) (tells_so [] t.commander p (omega arith) inside place loyal),
        all_below t.bound (t.commander ∷ []) p (omega arith) (omega arith) place,
      )

  list_plain : (p k : ℕ) → p < t.generals → p ≢ t.commander → AllByRecursion (IsPlain traitor) (list_behind p (tellings_of t order p) k)
  list_plain p k general lieutenant =
      let T : List Telling = tellings_of t order p in
      let list : List Telling = filter (is_in (k + 1)) (firsts is_same [] T) in
      all_strokes (IsPlain traitor) (IsHonest traitor) p (labels_of T) 0 (arranged is_lie teller list) (λ x i h. h)
      (all_arranged (IsHonest traitor) is_lie teller list (all_filter (IsHonest traitor) (is_in (k + 1)) (firsts is_same [] T) (all_firsts (IsHonest traitor) is_same [] T (all_told p general lieutenant))))

  all_plain : AllByRecursion (IsPlain traitor) (strokes_of t order)
  unfolding strokes_of
  all_plain =
      all_range (IsPlain traitor) (lists_to t.commander (t.bound + 1) (tellings_of t order)) t.generals
      (λ p general. cond_both (p == t.commander) [] (lists_of p (tellings_of t order p) (t.bound + 1)) (AllByRecursion (IsPlain traitor)) (λ e. tt)
      (λ e. all_range (IsPlain traitor) (list_behind p (tellings_of t order p)) (t.bound + 1) (λ k l. list_plain p k general (apart t.commander p e))))

weaker : {A : Type 0} (P Q : A → Type 0) (xs : List A) → ((x : A) → P x → Q x) → AllByRecursion P xs → AllByRecursion Q xs
weaker P Q [] h a = tt
weaker P Q (x ∷ xs) h a = (h x a.0, weaker P Q xs h a.1)

-- Proves that in the table of such messages no stroke of a loyal general is drawn in red.
pub blamed : (s : Scenario) (M : Messages) (t : MessageTable) → s.commander < s.generals
    → ((g : ℕ) → g < s.generals → is_traitor s g ≡ false → IsFaithful s.generals s.commander s.bound s.order M g) → IsTableOf M s.generals s.bound s.commander s.rule t
    → BlamesTraitors s t
blamed s M t present faithful table =
    let P : ℕ → ℕ → ℕ → Type 0 = λ n m c. (g : ℕ) → g < n → is_traitor s g ≡ false → IsFaithful n c m s.order M g in
    let first : P t.generals s.bound s.commander = subst (λ (n : ℕ). P n s.bound s.commander) (sym table.generals) faithful in
    let second : P t.generals t.bound s.commander = subst (λ (m : ℕ). P t.generals m s.commander) (sym table.bound) first in
    let third : P t.generals t.bound t.commander = subst (λ (c : ℕ). P t.generals t.bound c) (sym table.commander) second in
    let n = table.generals in
    let c = table.commander in
    let R : Stroke → Type 0 = λ stroke. is_traitor s stroke.teller ≡ false → IsDrawnHonest stroke in
    All-from_recursion R (strokes_of t s.order)
    (weaker (IsPlain (is_traitor s)) R (strokes_of t s.order) (λ stroke plain loyal. (plain loyal, drawn_plain stroke.differs stroke.told (plain loyal)))
    (all_plain M s.order (is_traitor s) t table.told (omega arith) third))

told_back : (order : ℕ) (o : Option ℕ) → not (is_told order o) ≡ false → o ≡ Some order
told_back order None e = absurd cc
told_back order (Some x) e = ap Some (eqb-true x order (not-false (x == order) e))

pub proved_only_traitors_differ : OnlyTraitorsDiffer
proved_only_traitors_differ = record {
  drawn = λ s events t is. blamed s (messages (run (opening s) events).closed) t is.scenario.commander (proved_worlds_agree.faithful s events is.scenario is.finished) is.table;
  first = λ t order p. (told_back order (told t.messages (t.commander ∷ []) p), told_so order (told t.messages (t.commander ∷ []) p));
  relayed = λ t w j p. (
    told_back (taken (told t.messages) w j) (told t.messages (w ++ j ∷ []) p),
    told_so (taken (told t.messages) w j) (told t.messages (w ++ j ∷ []) p),
  );
}
