-- Texts that are put together piece by piece.
use Rattle.std.proofs.Common.{◌≡◌, ◌+◌, ℕ, Bool, true, false, List, [], ◌∷◌, ◌++◌, refl, ap, sym, ◌∙◌, append_assoc, append-nil, codes}
use Rattle.std.specs.Fmt.{decimal}
use Rattle.std.specs.List.{filter, flat_map, range_with_len}
use Rattle.std.proofs.lemmas.List.{flat_map_more}
use Rattle.std.proofs.lemmas.List.Elements.{filter-append}
use Rattle.book.specs.Table.{MessageTable}
use Rattle.book.proofs.Gathering.{range_more}
use Rattle.table_scenario.specs.Scenarios.{first_order, numbers_text}

pub two_pieces : (s t u a b : List ℕ) → t ≡ s ++ a → u ≡ t ++ b → u ≡ s ++ (a ++ b)
two_pieces s t u a b e f = f ∙ (ap (λ x. x ++ b) e ∙ append_assoc s a b)

pub three_pieces : (s t u v a b c : List ℕ) → t ≡ s ++ a → u ≡ t ++ b → v ≡ u ++ c → v ≡ s ++ (a ++ (b ++ c))
three_pieces s t u v a b c e f g = two_pieces s u v (a ++ b) c (two_pieces s t u a b e f) g ∙ ap (λ x. s ++ x) (append_assoc a b c)

-- The numbers of a table in the head of its scenario.
pub numbers_are : (t : MessageTable) (s : List ℕ) (n m c v : ℕ) → n ≡ t.generals → m ≡ t.bound → c ≡ t.commander → v ≡ first_order t
    → s ≡ codes "generals = " ++ decimal n ++ codes "\nbound = " ++ decimal m ++ codes "\ncommander = " ++ decimal c ++ codes "\norder = " ++ decimal v ++ codes "\n" → s ≡ numbers_text t
numbers_are t s n m c v en em ec ev e =
    e ∙ (λ i. codes "generals = " ++ decimal (en i) ++ codes "\nbound = " ++ decimal (em i) ++ codes "\ncommander = " ++ decimal (ec i) ++ codes "\norder = " ++ decimal (ev i) ++ codes "\n")

-- One more general, who is among the chosen ones or is not.
chosen_more : (chosen : ℕ → Bool) (j : ℕ) → filter chosen (range_with_len 0 (j + 1)) ≡ filter chosen (range_with_len 0 j) ++ filter chosen (j ∷ [])
chosen_more chosen j = ap (filter chosen) (range_more j) ∙ filter-append chosen (range_with_len 0 j) (j ∷ [])

pub one_chosen : (line : ℕ → List ℕ) (chosen : ℕ → Bool) (j : ℕ) (old : List ℕ) → chosen j ≡ true → (old ++ flat_map line (filter chosen (range_with_len 0 j))) ++ line j ≡ old ++ flat_map line (filter chosen (range_with_len 0 (j + 1)))
one_chosen line chosen j old is =
    let last : filter chosen (j ∷ []) ≡ j ∷ [] = rw is refl in
    append_assoc old (flat_map line (filter chosen (range_with_len 0 j))) (line j)
    ∙ ap (λ x. old ++ x) (flat_map_more line [] (filter chosen (range_with_len 0 j)) j ∙ sym (ap (flat_map line) (chosen_more chosen j ∙ ap (λ x. filter chosen (range_with_len 0 j) ++ x) last)))

pub none_chosen : (line : ℕ → List ℕ) (chosen : ℕ → Bool) (j : ℕ) (old : List ℕ) → chosen j ≡ false → old ++ flat_map line (filter chosen (range_with_len 0 j)) ≡ old ++ flat_map line (filter chosen (range_with_len 0 (j + 1)))
none_chosen line chosen j old is =
    let last : filter chosen (j ∷ []) ≡ [] = rw is refl in
    ap (λ (xs : List ℕ). old ++ flat_map line xs) (sym (chosen_more chosen j ∙ (ap (λ x. filter chosen (range_with_len 0 j) ++ x) last ∙ append-nil (filter chosen (range_with_len 0 j)))))
