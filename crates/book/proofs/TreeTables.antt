-- Trees that are filled from messages are also filled from those of the table that they contain.
use Rattle.std.proofs.Common.{ℕ, zero, suc, ◌+◌, ◌<◌, ◌≤◌, ◌≡◌, ◌≢◌, true, false, List, [], ◌∷◌, length, map, refl, sym, ap, ◌∙◌, arith, inl, inr, Option, Some}
use Rattle.std.specs.Prelude.{◌==◌, find, slice_get}
use Rattle.std.proofs.lemmas.Bool.{cases_Bool, cond-true, cond-false, eq-eqb, eqb-true, or_cases, or_left, or_right, or_parts, true≢false}
use Rattle.label.specs.Labels.{labels, on}
use Rattle.label.specs.Lieutenants.{lieutenants}
use Rattle.label.specs.Oral.{Messages, IsLabel}
use Rattle.label.proofs.Counting.{others-on}
use Rattle.label.proofs.Listing.{proved_labels_are_exact}
use Rattle.tree.specs.LieutenantTree.{LieutenantTree, IsCampaign, levels_from}
use Rattle.combine.specs.declared.campaign_rule.Rule.{Rule}
use Rattle.book.specs.Places.{places}
use Rattle.book.specs.Table.{AreNumbersWithin, told}
use Rattle.book.specs.Trees.{AreTableTrees, tree_of}
use Rattle.book.specs.Collected.{collected, messages_at}
use Rattle.book.specs.Hearing.{heard, value_of}
use Rattle.book.proofs.Hearing.{value_told}
use Rattle.book.proofs.Reread.{collected_tells, place_from}

-- Mapped lists whose items agree at each index.
map_at : {A B : Type 0} (f g : A → B) (xs : List A) → ((i : ℕ) (x : A) → slice_get xs i ≡ Some x → f x ≡ g x) → map f xs ≡ map g xs
map_at f g [] same = refl
map_at f g (x ∷ xs) same = rw (same 0 x refl, map_at f g xs (λ i y at. same (suc i) y at)) refl

-- Mapped lists whose items agree for each general.
map_on : {B : Type 0} (f g : ℕ → B) (ps : List ℕ) → ((p : ℕ) → on ps p ≡ true → f p ≡ g p) → map f ps ≡ map g ps
map_on f g [] same = refl
map_on f g (p ∷ ps) same =
    rw (same p (or_left (p == p) (on ps p) (eq-eqb p p refl)), map_on f g ps (λ q i. same q (or_right (p == q) (on ps q) i))) refl

-- Levels depend only on what their labels contain.
levels_agree : (n c p : ℕ) (M N : Messages) (k l : ℕ) → c < n → p < n → p ≢ c → ((w : List ℕ) → IsLabel n c w → on w p ≡ false → length w < k + l → M w p ≡ N w p) → levels_from n c p M k l ≡ levels_from n c p N k l
unfolding levels_from
levels_agree n c p M N k zero lc lp ne same = refl
levels_agree n c p M N k (suc l) lc lp ne same =
    rw (
      map_at (λ w. M w p) (λ w. N w p) (labels n c p k) (λ i w at. let is = proved_labels_are_exact.only n c p k i w lc lp ne at in let long = is.2 in same w is.0 is.1 (omega arith)),
      levels_agree n c p M N (suc k) l lc lp ne (λ w label off short. same w label off (omega arith)),
    ) refl

-- So does a tree.
tree_agree : (n m c p : ℕ) (M N : Messages) → c < n → p < n → p ≢ c → ((w : List ℕ) → IsLabel n c w → on w p ≡ false → length w ≤ m + 1 → M w p ≡ N w p) → tree_of n m c M p ≡ tree_of n m c N p
tree_agree n m c p M N lc lp ne same =
    let T : List (List (Option ℕ)) → LieutenantTree = λ ls. record { generals = n; bound = m; commander = c; general = p; levels = ls } in
    ap T (levels_agree n c p M N 1 (m + 1) lc lp ne (λ w label off short. same w label off (omega arith)))

-- The tree of a lieutenant is among them.
find_tree : (n m c p : ℕ) (M : Messages) (ps : List ℕ) → on ps p ≡ true → find (λ (t : LieutenantTree). t.general == p) (map (tree_of n m c M) ps) ≡ Some (tree_of n m c M p)
find_tree n m c p M [] i = absurd (true≢false (sym i))
find_tree n m c p M (q ∷ ps) i = elim (cases_Bool (q == p)) [
  | inl here ↦
      cond-true (q == p) (Some (tree_of n m c M q)) (find (λ (t : LieutenantTree). t.general == p) (map (tree_of n m c M) ps)) here
      ∙ ap (λ (x : ℕ). Some (tree_of n m c M x)) (eqb-true q p here)
  | inr apart ↦
      cond-false (q == p) (Some (tree_of n m c M q)) (find (λ (t : LieutenantTree). t.general == p) (map (tree_of n m c M) ps)) apart
      ∙ find_tree n m c p M ps (elim (or_cases (q == p) (on ps p) i) [ inl it ↦ absurd (true≢false (sym it ∙ apart)) | inr there ↦ there ])
]

apart_from : (c p : ℕ) → on (c ∷ []) p ≡ false → p ≢ c
apart_from c p off e = true≢false (sym (eq-eqb c p (sym e)) ∙ (or_parts (c == p) false off).0)

-- What the trees contain for a label is what they were filled from.
heard_of : (n m c p : ℕ) (M : Messages) (w : List ℕ) → AreNumbersWithin n m c → on (lieutenants n c) p ≡ true → IsLabel n c w → on w p ≡ false → length w ≤ m + 1 → heard (map (tree_of n m c M) (lieutenants n c)) w p ≡ M w p
unfolding heard
heard_of n m c p M w within i label off short =
    let there = others-on n (c ∷ []) p i in
    let few = within.few in
    let rounds = within.rounds in
    let present = within.present in
    let lp = there.0 in
    let campaign : IsCampaign (tree_of n m c M p) = record { few = few; commander = present; general = lp; lieutenant = apart_from c p there.1; small = omega arith } in
    ap (λ (o : Option LieutenantTree). value_of o w) (find_tree n m c p M (lieutenants n c) i)
    ∙ value_told (tree_of n m c M p) M w campaign refl (record { label = label; without = off; short = short })

-- The trees are those of the table.
pub trees_collected : (n m c : ℕ) (rule : Rule) (M : Messages) (trees : List LieutenantTree) → AreNumbersWithin n m c → trees ≡ map (tree_of n m c M) (lieutenants n c)
    → AreTableTrees n m c (collected (heard trees) n m c rule).messages trees
trees_collected n m c rule M trees within is = record {
  within = within;
  filled = is ∙ map_on (tree_of n m c M) (tree_of n m c (told (messages_at (heard trees) (places n m c)))) (lieutenants n c)
      (λ p i.
      let there = others-on n (c ∷ []) p i in
      tree_agree n m c p M (told (messages_at (heard trees) (places n m c))) within.present there.0 (apart_from c p there.1)
      (λ w label off short.
      sym (collected_tells (heard trees) n m c w p (place_from n m c w p label there.0 off short)
      ∙ (ap (λ ts. heard ts w p) is ∙ heard_of n m c p M w within i label off short))));
}
