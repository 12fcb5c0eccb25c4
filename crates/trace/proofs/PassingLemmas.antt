-- Lines with neither a `u` nor an `s` say neither `round` nor `access`, so they may be skipped.
use Rattle.std.proofs.Common.{◌≡◌, ℕ, zero, suc, ◌+◌, ◌-◌, ◌<◌, ◌≤◌, Bool, true, false, cond, subst, List, [], ◌∷◌, ◌++◌, length, map, take, drop, refl, sym, ap, ◌∙◌, append-nil, arith}
use Rattle.std.specs.Prelude.{◌==◌, bytes_eq, codes}
use Rattle.std.proofs.lemmas.Bool.{false_from_ne_true}
use Rattle.std.proofs.lemmas.List.{take_all, length-take-le, get_or-take}
use Rattle.std.proofs.lemmas.Slice.Eq.{bytes_eq-Decides}
use Rattle.memchr.specs.Find.{Passes, Nowhere, is_byte, is_byte2}
use Rattle.text.specs.declared.stop.Stop.{Stop}
use Rattle.text.specs.Stop.{is_stop, feed, space}
use Rattle.text.specs.Parts.{pieces, onto_first}
use Rattle.trace.specs.Text.{Word}
use Rattle.trace.specs.Names.{Named, named, with_line}
use Rattle.trace.proofs.MarkLemmas.{some_piece}
use Rattle.trace.proofs.WrittenLemmas.{drop-length}

-- Returns whether a byte is `u` or `s`. Only lines with such a byte are looked at.
abbrev is_telling : ℕ → Bool
is_telling = is_byte2 117 115

-- States that a text has no such byte.
abbrev IsQuiet : List ℕ → Type 0
IsQuiet [] = Unit {0}
IsQuiet (c ∷ cs) = (is_telling c ≡ false) × IsQuiet cs

abbrev AreQuiet : List (List ℕ) → Type 0
AreQuiet [] = Unit {0}
AreQuiet (t ∷ ts) = IsQuiet t × AreQuiet ts

quiet_front : (t : List ℕ) (k : ℕ) → k ≤ length t → Nowhere (Passes is_telling t) 0 k → IsQuiet (take k t)
quiet_front t zero le none = tt
quiet_front [] (suc k) le none = tt
quiet_front (c ∷ cs) (suc k) le none =
    (false_from_ne_true (is_telling c) (none 0 (omega arith) (omega arith)), quiet_front cs k (omega arith) (λ j low high. none (suc j) (omega arith) (omega arith)))

quiet_pieces : (stop : Stop) (t : List ℕ) → IsQuiet t → AreQuiet (pieces stop t)
quiet_pieces stop [] h = (tt, tt)
quiet_pieces stop (c ∷ cs) h = by (is_stop stop c) (pieces stop cs) (quiet_pieces stop cs h.1)
  where
    onto : (ps : List (List ℕ)) → AreQuiet ps → AreQuiet (onto_first c ps)
    onto [] q = ((h.0, tt), tt)
    onto (p ∷ ps) q = ((h.0, q.0), q.1)

    by : (b : Bool) (ps : List (List ℕ)) → AreQuiet ps → AreQuiet (cond b ([] ∷ ps) (onto_first c ps))
    by true ps q = (tt, q)
    by false ps q = onto ps q

-- A word without such a byte differs from one with such a byte.
other_word : (w x : Word) → IsQuiet w → (IsQuiet x → ⊥) → bytes_eq w x ≡ false
other_word w x q loud = false_from_ne_true (bytes_eq w x) (λ e. loud (subst IsQuiet ((bytes_eq-Decides w x).0 e) q))

round_is_loud : IsQuiet (codes "round") → ⊥
round_is_loud q = let e : true ≡ false = q.1.1.0 in absurd cc

access_is_loud : IsQuiet (codes "access") → ⊥
access_is_loud q = let e : true ≡ false = q.1.1.1.1.0 in absurd cc

quiet_line : (words : List Word) → AreQuiet words → (rest : Named) → with_line words rest ≡ rest
quiet_line [] q rest = refl
quiet_line (w ∷ []) q rest = refl
quiet_line (w ∷ v ∷ vs) q rest = rw (other_word w (codes "round") q.0 round_is_loud, other_word w (codes "access") q.0 access_is_loud) refl

-- Lines without such a byte may come before others.
quiet_lines : (ls more : List (List ℕ)) → AreQuiet ls → named (map (pieces space) (ls ++ more)) ≡ named (map (pieces space) more)
quiet_lines [] more q = refl
quiet_lines (l ∷ ls) more q =
    quiet_line (pieces space l) (quiet_pieces space l q.0) (named (map (pieces space) (ls ++ more))) ∙ quiet_lines ls more q.1

onto_front : (c : ℕ) (w : List ℕ) (ws ps more : List (List ℕ)) → ps ≡ w ∷ ws → onto_first c (ps ++ more) ≡ onto_first c ps ++ more
onto_front c w ws ps more e = rw e refl

-- The lines before a line feed, and those after it.
split_at_feed : (t : List ℕ) (k : ℕ) → k < length t → Passes (is_byte 10) t k → pieces feed t ≡ pieces feed (take k t) ++ pieces feed (drop (suc k) t)
split_at_feed [] k lt is = absurd (omega arith)
split_at_feed (c ∷ cs) zero lt is = rw is refl
split_at_feed (c ∷ cs) (suc k) lt is = by (c == 10) (split_at_feed cs k (omega arith) is)
  where
    by : (b : Bool) → pieces feed cs ≡ pieces feed (take k cs) ++ pieces feed (drop (suc k) cs)
        → cond b ([] ∷ pieces feed cs) (onto_first c (pieces feed cs)) ≡ cond b ([] ∷ pieces feed (take k cs)) (onto_first c (pieces feed (take k cs))) ++ pieces feed (drop (suc k) cs)
    by true ih = ap (λ ls. [] ∷ ls) ih
    by false ih =
        let p = some_piece feed (take k cs) in
        ap (onto_first c) ih ∙ onto_front c p.0 p.1 (pieces feed (take k cs)) (pieces feed (drop (suc k) cs)) p.2

-- A text without such a byte names nobody.
pub names_no_one : (t : List ℕ) → Nowhere (Passes is_telling t) 0 (length t) → ([], []) ≡ named (map (pieces space) (pieces feed t))
names_no_one t none =
    let q : IsQuiet t = subst IsQuiet (take_all (length t) t (omega arith)) (quiet_front t (length t) (omega arith) none) in
    sym (ap (λ ls. named (map (pieces space) ls)) (sym (append-nil (pieces feed t))) ∙ quiet_lines (pieces feed t) [] (quiet_pieces feed t q))

-- The text after a line feed names the same generals, if no such byte is before it.
pub names_later : (t : List ℕ) (place k : ℕ) → place < length t → Nowhere (Passes is_telling t) 0 place → k < length (take place t) → Passes (is_byte 10) (take place t) k
    → named (map (pieces space) (pieces feed (take (length t - (k + 1)) (drop (k + 1) t)))) ≡ named (map (pieces space) (pieces feed t))
names_later t place k lt none before is =
    let early : k < place = let e = length-take-le place t (omega arith) in omega arith in
    let long : length (drop (k + 1) t) + (k + 1) ≡ length t = drop-length (k + 1) t (omega arith) in
    let here : Passes (is_byte 10) t k = ap (is_byte 10) (sym (get_or-take place t k 0 early)) ∙ is in
    let front : IsQuiet (take k t) = quiet_front t k (omega arith) (λ j low high. none j low (omega arith)) in
    let next : k + 1 ≡ suc k = omega arith in
    let rest : take (length t - (k + 1)) (drop (k + 1) t) ≡ drop (suc k) t = take_all (length t - (k + 1)) (drop (k + 1) t) (omega arith) ∙ ap (λ (n : ℕ). drop n t) next in
    ap (λ s. named (map (pieces space) (pieces feed s))) rest
    ∙ sym (ap (λ ls. named (map (pieces space) ls)) (split_at_feed t k (omega arith) here)
    ∙ quiet_lines (pieces feed (take k t)) (pieces feed (drop (suc k) t)) (quiet_pieces feed (take k t) front))
