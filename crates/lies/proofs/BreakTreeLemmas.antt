-- A tree that is filled with messages, label by label.
use Rattle.std.proofs.Common.{ℕ, zero, suc, ◌+◌, ◌<◌, ◌≤◌, ◌≡◌, ◌≢◌, false, List, [], ◌∷◌, length, map, refl, sym, ap, ◌∙◌, arith, inl, inr, Option, Some}
use Rattle.std.specs.Prelude.{slice_get, bytes_eq}
use Rattle.std.proofs.lemmas.Bool.{cases_lt, cases_Bool, cond-true, cond-false}
use Rattle.std.proofs.lemmas.Option.{slice_get_within}
use Rattle.std.proofs.lemmas.Slice.Eq.{bytes_eq-Decides}
use Rattle.label.specs.Labels.{on, labels}
use Rattle.label.specs.Oral.{Messages, IsLabel}
use Rattle.label.proofs.Listing.{proved_labels_are_exact}
use Rattle.tree.specs.LieutenantTree.{LieutenantTree, IsFilled, SameCampaign, levels_from, told_also}
use Rattle.book.specs.Trees.{tree_of}
use Rattle.book.proofs.TreeLemmas.{refilled}
use Rattle.lies.specs.BreakTrees.{HoldsBelow}

-- States that the tree also has the messages about the first labels of this length.
pub record HoldsUpTo (N : Messages) (size rank n m c p : ℕ) (t : LieutenantTree) : Type 0 where
  pub messages : Messages
  pub filled : t ≡ tree_of n m c messages p
  pub shorter : (w : List ℕ) → IsLabel n c w → on w p ≡ false → length w < size → messages w p ≡ N w p
  pub ranked : (i : ℕ) (w : List ℕ) → i < rank → slice_get (labels n c p size) i ≡ Some w → messages w p ≡ N w p

pub none_yet : (N : Messages) (size n m c p : ℕ) (t : LieutenantTree) → HoldsBelow N size n m c p t → HoldsUpTo N size 0 n m c p t
none_yet N size n m c p t h = record { messages = h.messages; filled = h.filled; shorter = h.told; ranked = λ i w l at. absurd (omega arith) }

-- Proves the claim with one message more.
also : (M N : Messages) (w : List ℕ) (v : Option ℕ) (u : List ℕ) (p : ℕ) → v ≡ N w p → M u p ≡ N u p → told_also M w v u p ≡ N u p
unfolding told_also
also M N w v u p e same = elim (cases_Bool (bytes_eq u w)) [
  | inl here ↦ cond-true (bytes_eq u w) v (M u p) here ∙ (e ∙ ap (λ (x : List ℕ). N x p) (sym ((bytes_eq-Decides u w).0 here)))
  | inr apart ↦ cond-false (bytes_eq u w) v (M u p) apart ∙ same
]

also_here : (M N : Messages) (w : List ℕ) (v : Option ℕ) (p : ℕ) → v ≡ N w p → told_also M w v w p ≡ N w p
unfolding told_also
also_here M N w v p e = cond-true (bytes_eq w w) v (M w p) ((bytes_eq-Decides w w).1 refl) ∙ e

pub one_more : (N : Messages) (size rank n m c p : ℕ) (old new : LieutenantTree) (w : List ℕ) (v : Option ℕ) → HoldsUpTo N size rank n m c p old
    → slice_get (labels n c p size) rank ≡ Some w → v ≡ N w p → SameCampaign old new → ((M : Messages) → IsFilled old M → IsFilled new (told_also M w v)) → HoldsUpTo N size (rank + 1) n m c p new
one_more N size rank n m c p old new w v h at e same filled = record {
  messages = told_also h.messages w v;
  filled = refilled old new n m c p h.messages w v h.filled same filled;
  shorter = λ u label off short. also h.messages N w v u p e (h.shorter u label off short);
  ranked = λ i u l there. elim (cases_lt i rank) [
    | inl before ↦ also h.messages N w v u p e (h.ranked i u before there)
    | inr last ↦
        let here : i ≡ rank = omega arith in
        let it : u ≡ w = some_same u w (sym there ∙ (ap (slice_get (labels n c p size)) here ∙ at)) in
        ap (λ (x : List ℕ). told_also h.messages w v x p) it ∙ (also_here h.messages N w v p e ∙ ap (λ (x : List ℕ). N x p) (sym it))
  ];
}
  where
    some_same : (u w : List ℕ) → Some u ≡ Some w → u ≡ w
    some_same u w e = cc

pub level_full : (N : Messages) (size rank n m c p : ℕ) (old t : LieutenantTree) → HoldsUpTo N size rank n m c p t → rank ≡ length (labels n c p size) → c < n → p < n → p ≢ c → HoldsBelow N (size + 1) n m c p t
level_full N size rank n m c p old t h e lc lp ne = record {
  messages = h.messages;
  filled = h.filled;
  told = λ w label off short. elim (cases_lt (length w) size) [
    | inl less ↦ h.shorter w label off less
    | inr last ↦
        let long : length w ≡ size = omega arith in
        let stands = proved_labels_are_exact.all n c p w lc lp ne label off in
        let there : slice_get (labels n c p size) stands.0 ≡ Some w = ap (λ k. slice_get (labels n c p k) stands.0) (sym long) ∙ stands.1 in
        let within : stands.0 < length (labels n c p size) = slice_get_within (labels n c p size) stands.0 w there in
        h.ranked stands.0 w (omega arith) there
  ];
}

-- Proves that two maps of a list are equal if they agree at each place.
map_at : {A B : Type 0} (f g : A → B) (xs : List A) → ((i : ℕ) (x : A) → slice_get xs i ≡ Some x → f x ≡ g x) → map f xs ≡ map g xs
map_at f g [] same = refl
map_at f g (x ∷ xs) same = rw (same 0 x refl, map_at f g xs (λ i y at. same (suc i) y at)) refl

-- Proves that levels depend only on the messages about their labels.
levels_agree : (n c p : ℕ) (M N : Messages) (k l : ℕ) → c < n → p < n → p ≢ c → ((w : List ℕ) → IsLabel n c w → on w p ≡ false → length w < k + l → M w p ≡ N w p) → levels_from n c p M k l ≡ levels_from n c p N k l
unfolding levels_from
levels_agree n c p M N k zero lc lp ne same = refl
levels_agree n c p M N k (suc l) lc lp ne same =
    rw (
      map_at (λ w. M w p) (λ w. N w p) (labels n c p k) (λ i w at. let is = proved_labels_are_exact.only n c p k i w lc lp ne at in let long = is.2 in same w is.0 is.1 (omega arith)),
      levels_agree n c p M N (suc k) l lc lp ne (λ w label off short. same w label off (omega arith)),
    ) refl

-- Proves that a tree that has the messages about all of its labels is filled with them.
pub all_full : (N : Messages) (size n m c p : ℕ) (t : LieutenantTree) → HoldsBelow N size n m c p t → m + 2 ≤ size → c < n → p < n → p ≢ c → t ≡ tree_of n m c N p
all_full N size n m c p t h long lc lp ne =
    let T : List (List (Option ℕ)) → LieutenantTree = λ ls. record { generals = n; bound = m; commander = c; general = p; levels = ls } in
    h.filled ∙ ap T (levels_agree n c p h.messages N 1 (m + 1) lc lp ne (λ w label off short. h.told w label off (omega arith)))
