-- The law about labels that are folded into a label.
use Rattle.std.proofs.Common.{ℕ, zero, suc, ◌+◌, ◌-◌, ◌*◌, ◌<◌, ◌≤◌, ◌≡◌, Bool, true, false, not, cond, ◌&&◌, List, [], ◌∷◌, ◌++◌, map, length, length-append, inl, inr, refl, sym, ap, ◌∙◌, arith}
use Rattle.std.specs.Prelude.{◌==◌, None, Option, Some, count_by, if◌then◌else◌, sum_by}
use Rattle.std.specs.List.{AllByRecursion, list_all}
use Rattle.std.proofs.lemmas.Bool.{and_from, and_parts, cases_Bool, cond-false, cond-true, eqb-true, ne_eqb, or_cases, or_parts, eq-eqb, or_left, or_right, true≢false}
use Rattle.std.proofs.lemmas.List.{length-map}
use Rattle.std.proofs.lemmas.List.Concat.{length-flat_map}
use Rattle.std.proofs.lemmas.List.Elements.{All-from_recursion}
use Rattle.std.proofs.lemmas.List.Sums.{sum_by-cons}
use Rattle.std.proofs.Math.Nat.{suc-mul}
use Rattle.combine.specs.declared.campaign_rule.Rule.{Rule}
use Rattle.combine.specs.Laws.{chosen_is_rule}
use Rattle.combine.specs.Rule.{combined_by, outcome_of}
use Rattle.combine.proofs.RuleLaws.{outcomes_law}
use Rattle.label.specs.Labels.{is_distinct, on, others}
use Rattle.label.specs.Oral.{AllBelow, om, order_of, taken}
use Rattle.label.proofs.Counting.{distinct-push, majority_counts, on-push, others-length, others-on}
use Rattle.label.proofs.Counts.{among, below as below_all}
use Rattle.label.proofs.Ranks.{others-count}
use Rattle.book.specs.Explained.{decided, element, list_of}
use Rattle.book.specs.Table.{MessageTable, told}
use Rattle.book.proofs.Places.{all_flat}
use Rattle.show_tree.specs.declared.node.Extent.TheVariants.{Cut, Folded, Last, Open}
use Rattle.show_tree.specs.declared.node.Trust.{Trust}
use Rattle.show_tree.specs.declared.node.Trust.TheVariants.{Honest, Lie, Traitor}
use Rattle.show_tree.specs.declared.node.Node.{Node}
use Rattle.show_tree.specs.declared.node.View.{View}
use Rattle.show_tree.specs.Facts.{below, extent_at, is_alike, is_honest, is_same, mark_at, node_at, outcome_at, tells}
use Rattle.show_tree.specs.Laws.{OutcomesAreExplained}
use Rattle.show_tree.specs.Folds.{FoldsAreAlike, IsLike, all_below, order_at}
use Rattle.show_tree.specs.Shown.{deeper, is_open, nodes_below, nodes_by, with_those}
use Rattle.show_tree.proofs.PlaceLemmas.{place_parts}

-- ---- equal orders without lies

same_told : (one other : Option ℕ) → is_same one other ≡ true → one ≡ other
same_told None None e = refl
same_told None (Some y) e = absurd cc
same_told (Some x) None e = absurd cc
same_told (Some x) (Some y) e = ap Some (sym (eqb-true y x e))

no_lie : (mark : Trust) → is_honest mark ≡ true → mark ≡ Honest
no_lie Honest e = refl
no_lie Traitor e = absurd cc
no_lie (Lie general took) e = absurd cc

each_on : (test : ℕ → Bool) (xs : List ℕ) (j : ℕ) → list_all test xs ≡ true → on xs j ≡ true → test j ≡ true
each_on test [] j all there = absurd cc
each_on test (x ∷ xs) j all there =
    let both = and_parts (test x) (list_all test xs) all in
    elim (or_cases (x == j) (on xs j) there) [ inl here ↦ ap test (sym (eqb-true x j here)) ∙ both.0 | inr later ↦ each_on test xs j both.1 later ]

record IsNext (t : MessageTable) (traitors : List ℕ) (k : ℕ) (w : List ℕ) (p j : ℕ) : Type 0 where
  told : told t.messages (w ++ j ∷ []) p ≡ told t.messages w p
  honest : mark_at t traitors w j p ≡ Honest
  alike : is_alike t traitors k (w ++ j ∷ []) p ≡ true

next : (t : MessageTable) (traitors : List ℕ) (k : ℕ) (w : List ℕ) (p j : ℕ) → is_alike t traitors (suc k) w p ≡ true → on (others t.generals (p ∷ w)) j ≡ true → IsNext t traitors k w p j
unfolding is_alike
next t traitors k w p j alike there =
    let so = each_on (λ i. tells t traitors w i p && is_alike t traitors k (w ++ i ∷ []) p) (others t.generals (p ∷ w)) j alike there in
    let both = and_parts (tells t traitors w j p) (is_alike t traitors k (w ++ j ∷ []) p) so in
    let told_so = and_parts (is_same (told t.messages (w ++ j ∷ []) p) (told t.messages w p)) (is_honest (mark_at t traitors w j p)) both.0 in
    record { told = same_told _ _ told_so.0; honest = no_lie _ told_so.1; alike = both.1 }

-- ---- the order of a label

-- Proves that a label with extensions has the outcome of its list.
listed : (t : MessageTable) (k : ℕ) (w : List ℕ) (p : ℕ) → outcome_at t (suc k) w p ≡ Some (outcome_of t.rule (list_of t k w p))
listed t k w p =
    let some : (suc k == 0) ≡ false = ne_eqb (suc k) 0 (λ e. absurd (omega arith)) in
    let one : suc k - 1 ≡ k = omega arith in
    ap (λ b. if b then None else Some (outcome_of t.rule (list_of t (suc k - 1) w p))) some
    ∙ ap (λ (i : ℕ). Some (outcome_of t.rule (list_of t i w p))) one

-- Proves the law that outcomes are explained.
pub explained : OutcomesAreExplained
explained = listed

-- Proves that the order of a label is the lieutenant's decision about it.
at_decided : (t : MessageTable) (k : ℕ) (w : List ℕ) (p : ℕ) → order_at (outcome_at t k w p) (told t.messages w p) ≡ decided t k w p
unfolding om
at_decided t zero w p = refl
at_decided t (suc k) w p = ap (λ o. order_at o (told t.messages w p)) (listed t k w p) ∙ outcomes_law t.rule (list_of t k w p)

none_so : (xs : List ℕ) → count_by (λ (x : ℕ). false) xs ≡ 0
none_so [] = refl
none_so (x ∷ xs) = omega (arith, sum_by-cons (λ (y : ℕ). cond {A = ℕ} false 1 0) x xs, none_so xs)

-- Proves that a list in which all orders are equal results in this order.
all_one : (rule : Rule) (F : ℕ → ℕ) (v : ℕ) (xs : List ℕ) → 0 < length xs → ((j : ℕ) → on xs j ≡ true → F j ≡ v) → combined_by rule (map F xs) ≡ v
all_one rule F v xs some says =
    let counts = majority_counts (λ j. false) F v xs (λ j there no. says j there) in
    chosen_is_rule rule (map F xs) v (omega (arith, none_so xs, length-map xs F))

-- Proves that the decision about a label that can be folded is the order received.
alike_comes : (t : MessageTable) (traitors : List ℕ) (k : ℕ) (w : List ℕ) (p : ℕ) → p < t.generals → on w p ≡ false → is_alike t traitors k w p ≡ true
    → decided t k w p ≡ taken (told t.messages) w p
unfolding om
alike_comes t traitors zero w p general off alike = refl
alike_comes t traitors (suc k) w p general off alike =
    all_one t.rule (element t k w p) (taken (told t.messages) w p) (others t.generals w) (omega (arith, others-length t.generals w p general off))
    (λ j there. elim (cases_Bool (j == p)) [
      | inl own ↦ cond-true (j == p) (taken (told t.messages) w p) (decided t k (w ++ j ∷ []) p) own
      | inr other ↦
          let is = others-on t.generals w j there in
          let apart : (p == j) ≡ false = ne_eqb p j (λ e. true≢false (sym (eq-eqb j p (sym e)) ∙ other)) in
          let so = next t traitors k w p j alike (among t.generals (p ∷ w) j is.0 (rw (apart, is.1) refl)) in
          let further : on (w ++ j ∷ []) p ≡ false = on-push w j p ∙ rw (off, other) refl in
          cond-false (j == p) (taken (told t.messages) w p) (decided t k (w ++ j ∷ []) p) other
          ∙ (alike_comes t traitors k (w ++ j ∷ []) p general further so.alike ∙ ap order_of so.told)
    ])

-- ---- all extensions are like the label

if_all : {A : Type 0} (P : A → Type 0) (b : Bool) (xs : List A) → AllByRecursion P xs → AllByRecursion P (if b then xs else [])
if_all P true xs all = all
if_all P false xs all = tt

all_like : (t : MessageTable) (traitors : List ℕ) (view : View) (k : ℕ) (v w : List ℕ) (p order : ℕ) → p < t.generals → on w p ≡ false → is_alike t traitors k w p ≡ true
    → told t.messages w p ≡ told t.messages v p → order_of (told t.messages v p) ≡ order → AllByRecursion (IsLike t v p order) (nodes_below t traitors view k w p)
unfolding nodes_below node_at
all_like t traitors view zero v w p order general off alike same comes = tt
all_like t traitors view (suc k) v w p order general off alike same comes =
    all_flat (IsLike t v p order) (λ j. nodes_by t traitors view k w j p) (others t.generals (p ∷ w))
    (λ j there.
    let so = next t traitors k w p j alike there in
    let is = others-on t.generals (p ∷ w) j there in
    let apart : (p == j) ≡ false = (or_parts (p == j) (on w j) is.1).0 in
    let other : (j == p) ≡ false = ne_eqb j p (λ e. true≢false (sym (eq-eqb p j (sym e)) ∙ apart)) in
    let further : on (w ++ j ∷ []) p ≡ false = on-push w j p ∙ rw (off, other) refl in
    let here : told t.messages (w ++ j ∷ []) p ≡ told t.messages v p = so.told ∙ same in
    let node : IsLike t v p order (node_at t traitors view (mark_at t traitors w j p) k (w ++ j ∷ []) p) = record {
      told = here;
      honest = so.honest;
      comes = at_decided t k (w ++ j ∷ []) p ∙ (alike_comes t traitors k (w ++ j ∷ []) p general further so.alike ∙ (ap order_of here ∙ comes));
    } in (
      node,
      if_all (IsLike t v p order) (is_open (extent_at t traitors view k (w ++ j ∷ []) p)) (nodes_below t traitors (deeper view) k (w ++ j ∷ []) p)
          (all_like t traitors (deeper view) k v (w ++ j ∷ []) p order general further so.alike here comes),
    ))

-- ---- the number of extensions

sum_same : (f : ℕ → ℕ) (c : ℕ) (xs : List ℕ) → ((x : ℕ) → on xs x ≡ true → f x ≡ c) → sum_by f xs ≡ length xs * c
sum_same f c [] says = omega arith
sum_same f c (x ∷ xs) says =
    let here : f x ≡ c = says x (or_left (x == x) (on xs x) (eq-eqb x x refl)) in
    let rest : sum_by f xs ≡ length xs * c = sum_same f c xs (λ y later. says y (or_right (x == y) (on xs y) later)) in
    omega (arith, sum_by-cons f x xs, suc-mul (length xs) c)

push_below : (n : ℕ) (w : List ℕ) (j : ℕ) → AllBelow n w → j < n → AllBelow n (w ++ j ∷ [])
push_below n [] j all small = (small, tt)
push_below n (x ∷ xs) j all small = (all.0, push_below n xs j all.1 small)

-- Proves that all extensions are shown if no label is folded and the view is deep enough.
all_open : (t : MessageTable) (traitors : List ℕ) (depth k : ℕ) (w : List ℕ) (p : ℕ) → 0 < k → 0 < depth → extent_at t traitors (record { depth = depth; folds = false; order = None }) k w p ≡ Open
all_open t traitors depth k w p some deep =
    cond-false (k == 0) Last _ (ne_eqb k 0 (λ e. absurd (omega arith))) ∙ cond-false (depth == 0) (Cut (below t.generals (length w) k)) Open (ne_eqb depth 0 (λ e. absurd (omega arith)))

with_length : (node : Node) (nodes : List Node) → node.extent ≡ Open → length (with_those node nodes) ≡ 1 + length nodes
with_length node nodes opens = let e : length (with_those node nodes) ≡ length (node ∷ nodes) = ap (λ x. length (node ∷ (if is_open x then nodes else []))) opens in omega arith

-- Proves the number for an extension and its own extensions.
with_next : (t : MessageTable) (traitors : List ℕ) (depth k : ℕ) (w : List ℕ) (p j : ℕ) → suc k ≤ depth
    → length (nodes_below t traitors (record { depth = depth - 1; folds = false; order = None }) k (w ++ j ∷ []) p) ≡ below t.generals (length (w ++ j ∷ [])) k
    → length (nodes_by t traitors (record { depth = depth; folds = false; order = None }) k w j p) ≡ 1 + below t.generals (length w + 1) k
unfolding node_at below
with_next t traitors depth zero w p j deep so = refl
with_next t traitors depth (suc k) w p j deep so =
    let view : View = record { depth = depth; folds = false; order = None } in
    with_length (node_at t traitors view (mark_at t traitors w j p) (suc k) (w ++ j ∷ []) p) (nodes_below t traitors (deeper view) (suc k) (w ++ j ∷ []) p)
    (all_open t traitors depth (suc k) (w ++ j ∷ []) p (omega arith) (omega arith))
    ∙ ap (λ (i : ℕ). 1 + i) (so ∙ ap (λ (i : ℕ). below t.generals i (suc k)) (length-append w (j ∷ [])))

so_many : (t : MessageTable) (traitors : List ℕ) (depth k : ℕ) (w : List ℕ) (p : ℕ) → k ≤ depth → p < t.generals → on w p ≡ false → is_distinct w ≡ true → AllBelow t.generals w
    → length (nodes_below t traitors (record { depth = depth; folds = false; order = None }) k w p) ≡ below t.generals (length w) k
unfolding nodes_below below
so_many t traitors depth zero w p deep general off distinct small = refl
so_many t traitors depth (suc k) w p deep general off distinct small =
    let view : View = record { depth = depth; folds = false; order = None } in
    let counted = others-count t.generals (p ∷ w) (and_from (not (on w p)) (is_distinct w) (ap not off) distinct) (general, small) in
    let wide : length (others t.generals (p ∷ w)) ≡ t.generals - 1 - length w = omega arith in
    length-flat_map (λ j. nodes_by t traitors view k w j p) (others t.generals (p ∷ w))
    ∙ (sum_same (λ j. length (nodes_by t traitors view k w j p)) (1 + below t.generals (length w + 1) k) (others t.generals (p ∷ w))
    (λ j there.
    let is = others-on t.generals (p ∷ w) j there in
    let apart = or_parts (p == j) (on w j) is.1 in
    let other : (j == p) ≡ false = ne_eqb j p (λ e. true≢false (sym (eq-eqb p j (sym e)) ∙ apart.0)) in
    with_next t traitors depth k w p j deep
    (so_many t traitors (depth - 1) k (w ++ j ∷ []) p (omega arith) general (on-push w j p ∙ rw (off, other) refl) (distinct-push w j distinct apart.1)
    (push_below t.generals w j small is.0)))
    ∙ ap (λ (i : ℕ). i * (1 + below t.generals (length w + 1) k)) wide)

-- ---- the law, as specs/Folds states it

folded : (a b c : Bool) (n m count : ℕ) → (if a then Last else if b then Folded n else if c then Cut m else Open) ≡ Folded count → (b ≡ true) × (count ≡ n)
folded true b c n m count e = absurd cc
folded false true c n m count e = (refl, sym cc)
folded false false true n m count e = absurd cc
folded false false false n m count e = absurd cc

pub proved_folds_are_alike : FoldsAreAlike
proved_folds_are_alike t traitors view k w p count place is =
    let parts = place_parts t w p place in
    let so = folded (k == 0) (view.folds && is_alike t traitors k w p) (view.depth == 0) (below t.generals (length w) k) (below t.generals (length w) k) count is in
    let alike = (and_parts view.folds (is_alike t traitors k w p) so.0).1 in
    let small : AllBelow t.generals w = below_all t.generals w parts.below in
    let comes : order_of (told t.messages w p) ≡ order_at (outcome_at t k w p) (told t.messages w p) = sym (at_decided t k w p ∙ alike_comes t traitors k w p parts.general parts.off alike) in
    record {
      many = so.1 ∙ sym (so_many t traitors k k w p (omega arith) parts.general parts.off parts.distinct small);
      alike = All-from_recursion (IsLike t w p (order_at (outcome_at t k w p) (told t.messages w p))) (all_below t traitors k w p) (all_like t traitors (record { depth = k; folds = false; order = None }) k w w p (order_at (outcome_at t k w p) (told t.messages w p)) parts.general parts.off alike refl comes);
    }
