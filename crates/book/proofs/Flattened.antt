-- The text of a table, place by place.
use Rattle.std.proofs.Common.{ℕ, zero, suc, ◌+◌, ◌<◌, ◌≡◌, true, List, [], ◌∷◌, ◌++◌, refl, sym, ap, ◌∙◌, append-nil}
use Rattle.std.specs.List.{flat_map, range_with_len, AllByRecursion}
use Rattle.combine.specs.declared.campaign_rule.Rule.{Rule}
use Rattle.label.specs.Labels.{others}
use Rattle.label.specs.Oral.{Messages}
use Rattle.book.specs.Explained.{dotted}
use Rattle.book.proofs.FormLemmas.{flat_flat, flat_same}
use Rattle.book.proofs.Places.{Place, places, places_from, is_place_of, are_places}
use Rattle.book.specs.Written.{Marking, first_line, line_of, lines_from, mark_of, telling, table_text, written}

-- The line of a place.
abbrev pub placed : Marking → Place → List ℕ
placed mark z = line_of (dotted z.0) z.1 (mark z.0 z.1)

lines_placed : (mark : Marking) (n k : ℕ) (w : List ℕ) → lines_from mark n k w ≡ flat_map (placed mark) (places_from n k w)
unfolding lines_from
lines_placed mark n zero w =
    sym (flat_flat (placed mark) (λ p. (w, p) ∷ []) (others n w)
    ∙ flat_same (λ p. flat_map (placed mark) ((w, p) ∷ [])) (λ p. line_of (dotted w) p (mark w p)) (others n w) (λ p. append-nil (placed mark (w, p))))
lines_placed mark n (suc k) w =
    flat_same (λ j. lines_from mark n k (w ++ j ∷ [])) (λ j. flat_map (placed mark) (places_from n k (w ++ j ∷ []))) (others n w) (λ j. lines_placed mark n k (w ++ j ∷ []))
    ∙ sym (flat_flat (placed mark) (λ j. places_from n k (w ++ j ∷ [])) (others n w))

-- The table is the first line, and then the lines of all places.
pub written_is : (mark : Marking) (n m c : ℕ) (rule : Rule) → written mark n m c rule ≡ first_line n m c rule ++ flat_map (placed mark) (places n m c)
unfolding written
written_is mark n m c rule =
    ap (λ ys. first_line n m c rule ++ ys)
    (flat_same (λ k. lines_from mark n k (c ∷ [])) (λ k. flat_map (placed mark) (places_from n k (c ∷ []))) (range_with_len 0 (m + 1)) (λ k. lines_placed mark n k (c ∷ []))
    ∙ sym (flat_flat (placed mark) (λ k. places_from n k (c ∷ [])) (range_with_len 0 (m + 1))))

agreeing : (F G : Place → List ℕ) (zs : List Place) → AllByRecursion (λ z. F z ≡ G z) zs → flat_map F zs ≡ flat_map G zs
agreeing F G [] a = refl
agreeing F G (z ∷ zs) a = rw (a.0, agreeing F G zs a.1) refl

weaker : (P Q : Place → Type 0) (xs : List Place) → ((x : Place) → P x → Q x) → AllByRecursion P xs → AllByRecursion Q xs
weaker P Q [] h a = tt
weaker P Q (x ∷ xs) h a = (h x a.0, weaker P Q xs h a.1)

-- The text depends only on the messages at the campaign's places.
pub tables_same : (M N : Messages) (n m c : ℕ) (rule : Rule) → c < n → ((w : List ℕ) (p : ℕ) → is_place_of n m c w p ≡ true → M w p ≡ N w p) → table_text M n m c rule ≡ table_text N n m c rule
tables_same M N n m c rule l same =
    written_is (telling M) n m c rule
    ∙ (ap (λ ys. first_line n m c rule ++ ys)
    (agreeing (placed (telling M)) (placed (telling N)) (places n m c)
    (weaker (λ z. is_place_of n m c z.0 z.1 ≡ true) (λ z. placed (telling M) z ≡ placed (telling N) z) (places n m c) (λ z e. ap (λ o. line_of (dotted z.0) z.1 (mark_of o)) (same z.0 z.1 e)) (are_places n m c l)))
    ∙ sym (written_is (telling N) n m c rule))
