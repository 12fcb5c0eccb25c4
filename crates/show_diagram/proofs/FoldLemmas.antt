-- Texts that are built element by element from a list.
use Rattle.std.proofs.Common.{ℕ, suc, ◌+◌, ◌<◌, ◌≤◌, ◌≡◌, List, ◌∷◌, ◌++◌, length, drop, get_or, ap, sym, ◌∙◌, append_assoc, append-nil, arith}
use Rattle.std.proofs.lemmas.List.{drop_all, drop_more}
use Rattle.board.specs.Board.{Access}
use Rattle.show_diagram.specs.Bands.{access_at, accesses_from}
use Rattle.show_diagram.specs.Layout.{access_top}

-- Proves that one more access continues the text of the accesses so far.
pub access_more : (n round place : ℕ) (xs : List Access) (a : Access) (old new whole : List ℕ) → place < length xs → a ≡ get_or xs place a
    → old ++ accesses_from n xs round place (drop place xs) ≡ whole → new ≡ old ++ access_at n (access_top xs round place) round a
    → new ++ accesses_from n xs round (place + 1) (drop (place + 1) xs) ≡ whole
unfolding accesses_from
access_more n round place xs a old new whole within is so e =
    let rest : List Access = drop (place + 1) xs in
    let left : drop place xs ≡ a ∷ rest = drop_more xs place a within ∙ ap (λ x. x ∷ rest) (sym is) in
    ap (λ ys. ys ++ accesses_from n xs round (place + 1) rest) e
    ∙ (append_assoc old (access_at n (access_top xs round place) round a) (accesses_from n xs round (place + 1) rest)
    ∙ (ap (λ ys. old ++ accesses_from n xs round place ys) (sym left) ∙ so))

pub accesses_all : (n round place : ℕ) (xs : List Access) (out whole : List ℕ) → length xs ≤ place → out ++ accesses_from n xs round place (drop place xs) ≡ whole → out ≡ whole
unfolding accesses_from
accesses_all n round place xs out whole past so =
    sym (append-nil out) ∙ (ap (λ ys. out ++ accesses_from n xs round place ys) (sym (drop_all place xs past)) ∙ so)
