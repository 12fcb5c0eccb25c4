-- Lemmas about the sentence at an index of a list.
use Rattle.std.proofs.Common.{◌≡◌, ℕ, ◌≤◌, ◌<◌, List, [], length, map, get_or, sym, arith}
use Rattle.std.proofs.lemmas.List.{get_or-map, get_or_past, length-map}

pub sentence_read : {X : Type 0} (f : X → List ℕ) (xs : List X) (i : ℕ) (d : X) → i < length xs → f (get_or xs i d) ≡ get_or (map f xs) i []
sentence_read f xs i d less = sym (get_or-map f xs i d [] less)

pub no_sentence : {X : Type 0} (f : X → List ℕ) (xs : List X) (i : ℕ) → length xs ≤ i → [] ≡ get_or (map f xs) i []
no_sentence f xs i past = sym (get_or_past (map f xs) i [] (omega (arith, length-map xs f)))
