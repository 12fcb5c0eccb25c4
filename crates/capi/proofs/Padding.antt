-- Lemmas about contexts that are filled up with zeros.
use Rattle.std.proofs.Common.{◌≡◌, ◌∙◌, ℕ, ◌+◌, ◌-◌, ◌≤◌, List, ◌++◌, append-nil, length, take, drop, replicate, sym, ap, subst, refl, arith}
use Rattle.std.proofs.lemmas.List.{drop-drop, drop_at, take_at, length-append, length-replicate, drop-replicate, replicate-append-replicate}
use Rattle.semantics.specs.Limits.{context_size}
use Rattle.capi.specs.Padding.{padded, IsPadded}

-- A context of 4,096 bytes needs no zeros.
pub whole : (bytes : List ℕ) → length bytes ≡ 4096 → padded bytes ≡ bytes
whole bytes long = let none : context_size - length bytes ≡ 0 = omega arith in ap (λ (k : ℕ). bytes ++ replicate k 0) none ∙ append-nil bytes

-- A buffer of zeros is a context of which nothing is given.
pub blank : IsPadded (replicate 4096 0) 0
blank = record { long = length-replicate {A = ℕ} 4096 0; within = omega arith; zeros = drop-replicate 0 4096 0 }

-- A context has the given bytes first and then zeros.
pub is_padded : (bytes : List ℕ) → length bytes ≤ 4096 → IsPadded (padded bytes) (length bytes)
is_padded bytes few = record {
  long = (
      let zeros : List ℕ = replicate (context_size - length bytes) 0 in
      let parts : length (bytes ++ zeros) ≡ length bytes + length zeros = length-append bytes zeros in
      let rest : length zeros ≡ context_size - length bytes = length-replicate {A = ℕ} (context_size - length bytes) 0 in
      parts ∙ omega arith
      );
  within = few;
  zeros = drop_at bytes (replicate (context_size - length bytes) 0) (length bytes) refl;
}

-- The zeros at the end of a buffer, in terms of its length.
pub zeros_in : (bytes : List ℕ) (filled : ℕ) → IsPadded bytes filled → drop filled bytes ≡ replicate (length bytes - filled) 0
zeros_in bytes filled h = h.zeros ∙ ap (λ (n : ℕ). replicate (n - filled) 0) (sym h.long)

-- A buffer to which new bytes and zeros were written has the new context.
pub refilled : (bytes room start : List ℕ) → length bytes ≡ 4096 → room ≡ start ++ replicate (length bytes - length start) 0 → room ≡ padded start
refilled bytes room start long written = written ∙ ap (λ (n : ℕ). start ++ replicate (n - length start) 0) long

-- In this buffer the new bytes are the given ones.
pub filled_again : (bytes room start : List ℕ) (n : ℕ) → length bytes ≡ 4096 → length start ≤ 4096 → n ≡ length start → room ≡ start ++ replicate (length bytes - length start) 0 → IsPadded room n
filled_again bytes room start n long few count written =
    subst (λ (k : ℕ). IsPadded room k) (sym count) (subst (λ (l : List ℕ). IsPadded l (length start)) (sym (refilled bytes room start long written)) (is_padded start few))

-- A buffer that is 0 from one index on is 0 from every later index on.
zeros_later : (room : List ℕ) (filled n : ℕ) → filled ≤ n → drop filled room ≡ replicate (length room - filled) 0 → drop n room ≡ replicate (length room - n) 0
zeros_later room filled n le zeros =
    let on : filled + (n - filled) ≡ n = omega arith in
    let rest : length room - filled - (n - filled) ≡ length room - n = omega arith in
    ap (λ (k : ℕ). drop k room) (sym on)
    ∙ (sym (drop-drop (n - filled) filled room)
    ∙ (ap (λ (l : List ℕ). drop (n - filled) l) zeros
    ∙ (drop-replicate (n - filled) (length room - filled) 0 ∙ ap (λ (k : ℕ). replicate k 0) rest)))

-- The new context gives at least as many bytes as the previous one.
pub covered : (room start : List ℕ) (filled n : ℕ) → filled ≤ n → drop filled room ≡ replicate (length room - filled) 0 → start ++ drop n room ≡ start ++ replicate (length room - n) 0
covered room start filled n le zeros = ap (λ (l : List ℕ). start ++ l) (zeros_later room filled n le zeros)

-- The new context gives fewer bytes than the previous one, so the bytes between are cleared.
pub cleared : (room start : List ℕ) (filled n : ℕ) → length start ≡ n → n ≤ filled → filled ≤ length room → drop filled room ≡ replicate (length room - filled) 0
    → take n (start ++ drop n room) ++ (replicate (filled - n) 0 ++ drop filled (start ++ drop n room)) ≡ start ++ replicate (length room - n) 0
cleared room start filled n long le within zeros =
    let on : n + (filled - n) ≡ filled = omega arith in
    let behind : drop filled (start ++ drop n room) ≡ replicate (length room - filled) 0 =
    ap (λ (k : ℕ). drop k (start ++ drop n room)) (sym on)
    ∙ (sym (drop-drop (filled - n) n (start ++ drop n room))
    ∙ (ap (λ (l : List ℕ). drop (filled - n) l) (drop_at start (drop n room) n long)
    ∙ (drop-drop (filled - n) n room ∙ (ap (λ (k : ℕ). drop k room) on ∙ zeros)))) in
    let all : filled - n + (length room - filled) ≡ length room - n = omega arith in
    ap (λ (l : List ℕ). l ++ (replicate (filled - n) 0 ++ drop filled (start ++ drop n room))) (take_at start (drop n room) n long)
    ∙ (ap (λ (l : List ℕ). start ++ (replicate (filled - n) 0 ++ l)) behind
    ∙ ap (λ (l : List ℕ). start ++ l) (replicate-append-replicate (filled - n) (length room - filled) 0 ∙ ap (λ (k : ℕ). replicate k 0) all))
