-- The orders that chains add, and the entries that pass these chains on.
use Rattle.std.proofs.Common.{◌≡◌, ℕ, suc, ◌+◌, ◌<◌, ◌≤◌, Bool, true, false, not, cond, ◌&&◌, ◌||◌, List, [], ◌∷◌, ◌++◌, length, refl, sym, ap, subst, ◌∙◌, arith, length-append, Some}
use Rattle.std.specs.Prelude.{filter, slice_get, if◌then◌else◌, ◌==◌}
use Rattle.std.proofs.lemmas.Bool.{lt-ltb}
use Rattle.std.proofs.lemmas.List.{append_assoc, append-nil}
use Rattle.label.specs.Labels.{on}
use Rattle.semantics.specs.Relay.{Relay}
use Rattle.semantics.specs.Entries.{is_sendable, entered}
use Rattle.signed.specs.Chains.{Chain, orders}
use Rattle.signed.specs.Accepted.{counts, firsts}
use Rattle.signed.specs.Entries.{Entry, Pass}
use Rattle.signed.specs.Loyal.{bits_but, passes}
use Rattle.signed.specs.Sending.{added_by, entered_all}
use Rattle.signed.proofs.Adding.{added_by_is}

-- States that the same numbers are in both lists.
abbrev pub SameOn : List ℕ → List ℕ → Type 0
SameOn xs ys = (v : ℕ) → on xs v ≡ on ys v

same_more : (xs ys : List ℕ) (v : ℕ) → SameOn xs ys → SameOn (v ∷ xs) (v ∷ ys)
same_more xs ys v same w = ap (λ (b : Bool). (v == w) || b) (same w)

pub passes_same : (n k g place : ℕ) (xs ys : List ℕ) (chains : List Chain) → SameOn xs ys → passes n k g place xs chains ≡ passes n k g place ys chains
passes_same n k g place xs ys [] same = refl
passes_same n k g place xs ys (ch ∷ chains) same =
    (λ i. cond (counts k g ch && not (same ch.order i))
    (Pass place (bits_but n (ch.signers ++ g ∷ [])) ∷ passes_same n k g (suc place) (ch.order ∷ xs) (ch.order ∷ ys) chains (same_more xs ys ch.order same) i)
    (passes_same n k g (suc place) xs ys chains same i))

pub added_longer : (k p : ℕ) (seen : List ℕ) (chains : List Chain) → length seen ≤ length (added_by k p seen chains)
added_longer k p seen chains =
    let e = ap length (added_by_is k p seen chains) in
    omega (arith, length-append seen (orders (firsts seen (filter (counts k p) chains))))

-- There is one entry for each order.
passes_count_more : (n k g place : ℕ) (seen : List ℕ) (ch : Chain) (chains : List Chain) →
    ((at : ℕ) (more : List ℕ) → length (passes n k g at more chains) ≡ length (firsts more (filter (counts k g) chains))) → (a b : Bool) → on seen ch.order ≡ b →
    length (cond (a && not b) (Pass place (bits_but n (ch.signers ++ g ∷ [])) ∷ passes n k g (suc place) (ch.order ∷ seen) chains) (passes n k g (suc place) seen chains))
    ≡ length (firsts seen (cond a (ch ∷ filter (counts k g) chains) (filter (counts k g) chains)))
passes_count_more n k g place seen ch chains ih false b e = ih (suc place) seen
passes_count_more n k g place seen ch chains ih true true e =
    ih (suc place) seen ∙ ap (λ (b : Bool). length (cond b (firsts seen (filter (counts k g) chains)) (ch ∷ firsts (ch.order ∷ seen) (filter (counts k g) chains)))) (sym e)
passes_count_more n k g place seen ch chains ih true false e =
    ap suc (ih (suc place) (ch.order ∷ seen)) ∙ ap (λ (b : Bool). length (cond b (firsts seen (filter (counts k g) chains)) (ch ∷ firsts (ch.order ∷ seen) (filter (counts k g) chains)))) (sym e)

pub passes_count : (n k g place : ℕ) (seen : List ℕ) (chains : List Chain) → length (passes n k g place seen chains) ≡ length (firsts seen (filter (counts k g) chains))
passes_count n k g place seen [] = refl
passes_count n k g place seen (ch ∷ chains) =
    passes_count_more n k g place seen ch chains (λ at more. passes_count n k g at more chains) (counts k g ch) (on seen ch.order) refl

-- An allowed entry is added if there is room.
pub taken : (relay : Relay) (entries : List Entry) (e : Entry) → is_sendable relay e ≡ true → length entries < 8 → entered relay entries e ≡ entries ++ e ∷ []
taken relay entries e may room =
    (λ i. if (may i && lt-ltb (length entries) 8 room i) then entries ++ e ∷ [] else entries)

-- States that each chain from an index on that counts may be passed on.
abbrev pub MayPass : Relay → ℕ → ℕ → ℕ → List Chain → Type 0
MayPass relay k g place chains = (i : ℕ) (ch : Chain) (bits : ℕ) → slice_get chains i ≡ Some ch → counts k g ch ≡ true → is_sendable relay (Pass (place + i) bits) ≡ true

may_later : (relay : Relay) (k g place : ℕ) (ch : Chain) (chains : List Chain) → MayPass relay k g place (ch ∷ chains) → MayPass relay k g (suc place) chains
may_later relay k g place ch chains may i x bits at c =
    let e : place + suc i ≡ suc place + i = omega arith in
    subst (λ (j : ℕ). is_sendable relay (Pass j bits) ≡ true) e (may (suc i) x bits at c)

-- So all entries are made if there is room for them.
entered_more : (relay : Relay) (n k g place : ℕ) (seen : List ℕ) (ch : Chain) (chains : List Chain) (entries : List Entry) →
    ((more : List ℕ) (es : List Entry) → length es + length (passes n k g (suc place) more chains) ≤ 8 → entered_all relay es (passes n k g (suc place) more chains) ≡ es ++ passes n k g (suc place) more chains) →
    (a b : Bool) → (a ≡ true → (bits : ℕ) → is_sendable relay (Pass place bits) ≡ true) →
    length entries + length (cond (a && not b) (Pass place (bits_but n (ch.signers ++ g ∷ [])) ∷ passes n k g (suc place) (ch.order ∷ seen) chains) (passes n k g (suc place) seen chains)) ≤ 8 →
    entered_all relay entries (cond (a && not b) (Pass place (bits_but n (ch.signers ++ g ∷ [])) ∷ passes n k g (suc place) (ch.order ∷ seen) chains) (passes n k g (suc place) seen chains))
    ≡ entries ++ cond (a && not b) (Pass place (bits_but n (ch.signers ++ g ∷ [])) ∷ passes n k g (suc place) (ch.order ∷ seen) chains) (passes n k g (suc place) seen chains)
entered_more relay n k g place seen ch chains entries ih false b may room = ih seen entries room
entered_more relay n k g place seen ch chains entries ih true true may room = ih seen entries room
entered_more relay n k g place seen ch chains entries ih true false may room =
    let e = Pass place (bits_but n (ch.signers ++ g ∷ [])) in
    let rest = passes n k g (suc place) (ch.order ∷ seen) chains in
    let one = taken relay entries e (may refl (bits_but n (ch.signers ++ g ∷ []))) (omega arith) in
    ap (λ (es : List Entry). entered_all relay es rest) one
    ∙ (ih (ch.order ∷ seen) (entries ++ e ∷ []) (omega (arith, length-append entries (e ∷ []))) ∙ append_assoc entries (e ∷ []) rest)

pub passes_entered : (relay : Relay) (n k g place : ℕ) (seen : List ℕ) (chains : List Chain) (entries : List Entry) → MayPass relay k g place chains →
    length entries + length (passes n k g place seen chains) ≤ 8 → entered_all relay entries (passes n k g place seen chains) ≡ entries ++ passes n k g place seen chains
passes_entered relay n k g place seen [] entries may room = sym (append-nil entries)
passes_entered relay n k g place seen (ch ∷ chains) entries may room =
    let here : place + 0 ≡ place = omega arith in
    entered_more relay n k g place seen ch chains entries
    (λ more es r. passes_entered relay n k g (suc place) more chains es (may_later relay k g place ch chains may) r)
    (counts k g ch) (on seen ch.order)
    (λ c bits. subst (λ (j : ℕ). is_sendable relay (Pass j bits) ≡ true) here (may 0 ch bits refl c)) room
