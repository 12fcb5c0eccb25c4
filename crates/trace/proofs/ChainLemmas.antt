-- The lines of signed chains are made from their parts, one chain at a time.
use Rattle.std.proofs.Common.{◌≡◌, ℕ, zero, suc, ◌+◌, ◌-◌, ◌<◌, ◌≤◌, true, false, List, [], ◌∷◌, ◌++◌, map, flat_map, take, drop, length, get_or, refl, sym, ap, ◌∙◌, arith, append-nil}
use Rattle.std.specs.Prelude.{◌==◌, codes, decimal, filter}
use Rattle.std.specs.Int.{bit_at}
use Rattle.std.specs.List.{range_with_len}
use Rattle.std.proofs.lemmas.List.{take_all, take_more, map-append}
use Rattle.std.proofs.lemmas.List.Elements.{filter-append}
use Rattle.signed.specs.Chains.{Chain}
use Rattle.signed.specs.Sending.{dispatch_of, named}
use Rattle.trace.specs.SignedText.{chain_line, dotted}
use Rattle.trace.specs.Text.{further, text}
use Rattle.trace.proofs.WrittenLemmas.{further-one}
use Rattle.trace.proofs.LineLemmas.{said}

-- Returns a dot and a general's number.
abbrev pub behind_dot : ℕ → List ℕ
behind_dot g = 46 ∷ decimal g

-- Returns those of these generals whose bits are set.
abbrev pub named_of : ℕ → List ℕ → List ℕ
named_of bits gs = filter (λ g. bit_at bits g == 1) gs

range_more : (a n : ℕ) → range_with_len a (n + 1) ≡ range_with_len a n ++ (a + n) ∷ []
range_more a zero = ap (λ (k : ℕ). k ∷ []) (let e : a ≡ a + 0 = omega arith in e)
range_more a (suc n) =
    let e : suc n + 1 ≡ suc (n + 1) = omega arith in
    let k : a + 1 + n ≡ a + suc n = omega arith in
    ap (λ (m : ℕ). range_with_len a m) e ∙ ap (λ (l : List ℕ). a ∷ l) (range_more (a + 1) n ∙ ap (λ (m : ℕ). range_with_len (a + 1) n ++ m ∷ []) k)

-- One more general is considered.
one_named : (bits g : ℕ) → named_of bits (range_with_len 0 (g + 1)) ≡ named_of bits (range_with_len 0 g) ++ named_of bits (g ∷ [])
one_named bits g =
    let e : 0 + g ≡ g = omega arith in
    ap (named_of bits) (range_more 0 g ∙ ap (λ (m : ℕ). range_with_len 0 g ++ m ∷ []) e) ∙ filter-append (λ x. bit_at bits x == 1) (range_with_len 0 g) (g ∷ [])

pub named_then : (bits g : ℕ) → (bit_at bits g == 1) ≡ true → named_of bits (range_with_len 0 (g + 1)) ≡ named_of bits (range_with_len 0 g) ++ g ∷ []
named_then bits g h = one_named bits g ∙ rw h refl

pub named_else : (bits g : ℕ) → (bit_at bits g == 1) ≡ false → named_of bits (range_with_len 0 (g + 1)) ≡ named_of bits (range_with_len 0 g)
named_else bits g h = one_named bits g ∙ rw h (append-nil (named_of bits (range_with_len 0 g)))

-- One more chain is written.
pub chains_more : (xs : List (Chain × ℕ)) (i : ℕ) (x : Chain × ℕ) → i < length xs → x ≡ get_or xs i x
    → map chain_line (map dispatch_of (take (i + 1) xs)) ≡ map chain_line (map dispatch_of (take i xs)) ++ chain_line (dispatch_of x) ∷ []
chains_more xs i x lt is =
    ap (λ (l : List (Chain × ℕ)). map chain_line (map dispatch_of l)) (take_more xs i x lt ∙ ap (λ (y : Chain × ℕ). take i xs ++ y ∷ []) (sym is))
    ∙ (ap (map chain_line) (map-append dispatch_of (take i xs) (x ∷ [])) ∙ map-append chain_line (map dispatch_of (take i xs)) (dispatch_of x ∷ []))

-- The words of a chain's line, one after another.
words_parts : (chain order signers to receivers : List ℕ)
    → ((((chain ++ 32 ∷ order) ++ (32 ∷ signers)) ++ (32 ∷ to)) ++ (32 ∷ receivers)) ++ 10 ∷ [] ≡ (chain ++ further (order ∷ signers ∷ to ∷ receivers ∷ [])) ++ 10 ∷ []
words_parts chain order signers to receivers =
    let one = chain ++ 32 ∷ order in
    let two = one ++ (32 ∷ signers) in
    let three = two ++ (32 ∷ to) in
    ap (λ t. t ++ 10 ∷ [])
    (ap (λ t. three ++ t) (sym (further-one receivers)) ∙ said two to (receivers ∷ []) ∙ said one signers (to ∷ receivers ∷ []) ∙ said chain order (signers ∷ to ∷ receivers ∷ []))

-- The line of a chain is made from its parts.
pub chain_parts : (ch : Chain) (receivers order : ℕ) (signers : List ℕ) → order ≡ ch.order → signers ≡ ch.signers
    → ((((codes "chain" ++ 32 ∷ decimal order) ++ (32 ∷ dotted signers)) ++ codes " to") ++ (32 ∷ dotted (named receivers))) ++ 10 ∷ [] ≡ text (chain_line (dispatch_of (ch, receivers)) ∷ [])
chain_parts ch receivers order signers eo es =
    (λ i. ((((codes "chain" ++ 32 ∷ decimal (eo i)) ++ (32 ∷ dotted (es i))) ++ codes " to") ++ (32 ∷ dotted (named receivers))) ++ 10 ∷ [])
    ∙ words_parts (codes "chain") (decimal ch.order) (dotted ch.signers) (codes "to") (dotted (named receivers))

-- The first general's number, and the others with a dot before each.
pub dotted_parts : (gs : List ℕ) (d : ℕ) → 1 ≤ length gs → (32 ∷ decimal (get_or gs 0 d)) ++ flat_map behind_dot (take (length gs - 1) (drop 1 gs)) ≡ 32 ∷ dotted gs
dotted_parts [] d some = absurd (omega arith)
dotted_parts (g ∷ gs) d some = ap (λ (l : List ℕ). (32 ∷ decimal g) ++ flat_map behind_dot l) (take_all (length (g ∷ gs) - 1) gs (omega arith))
