-- Lists of strokes that are made one stroke at a time.
use Rattle.std.proofs.Common.{ℕ, suc, ◌+◌, ◌<◌, ◌≤◌, ◌≡◌, Bool, true, false, not, cond, List, [], ◌∷◌, ◌++◌, map, length, get_or, take, drop, refl, sym, ap, ◌∙◌, append_assoc, append-nil, arith}
use Rattle.std.specs.Prelude.{filter}
use Rattle.std.specs.List.{flat_map, range_with_len}
use Rattle.std.proofs.lemmas.List.{drop_all, drop_more, map_more, take_all}
use Rattle.std.proofs.lemmas.List.Elements.{filter_more}
use Rattle.std.proofs.lemmas.List.Concat.{flat_map-append}
use Rattle.book.proofs.Gathering.{range_more}
use Rattle.label.specs.Labels.{on}
use Rattle.signed.specs.Chains.{Chain, orders}
use Rattle.signed.specs.Accepted.{firsts}
use Rattle.signed.specs.Sending.{added_also}
use Rattle.signed.proofs.Adding.{at_the_end, firsts_alike}
use Rattle.show_chains.specs.Owed.{is_among}
use Rattle.show_chains.specs.Strokes.{Drawn, grouped, in_row, numbered, told_between, way}

-- The list for one more number is appended to those for the numbers below it.
pub range_items : {A : Type 0} (f : ℕ → List A) (n : ℕ) (old : List A) → (old ++ flat_map f (range_with_len 0 n)) ++ f n ≡ old ++ flat_map f (range_with_len 0 (n + 1))
range_items f n old =
    append_assoc old (flat_map f (range_with_len 0 n)) (f n)
    ∙ ap (λ xs. old ++ xs)
    (ap (λ xs. flat_map f (range_with_len 0 n) ++ xs) (sym (append-nil (f n)))
    ∙ sym (ap (flat_map f) (range_more n) ∙ flat_map-append f (range_with_len 0 n) (n ∷ [])))

-- One more element is appended if it passes the test.
pub kept_more : {A : Type 0} (f : A → Bool) (b : Bool) (xs old new : List A) (i : ℕ) (x : A) → i < length xs → x ≡ get_or xs i x → b ≡ f x → old ≡ filter f (take i xs) → new ≡ old ++ cond b (x ∷ []) []
    → new ≡ filter f (take (i + 1) xs)
kept_more f b xs old new i x inside is e first then =
    then
    ∙ (ap (λ ys. ys ++ cond b (x ∷ []) []) first
    ∙ (ap (λ a. filter f (take i xs) ++ cond a (x ∷ []) []) e ∙ sym (filter_more f xs i x inside ∙ ap (λ y. filter f (take i xs) ++ cond (f y) (y ∷ []) []) (sym is))))

-- One more element of a list is mapped.
pub mapped : {A B : Type 0} (f : A → B) (xs : List A) (now : List B) (i : ℕ) (x : A) → i < length xs → x ≡ get_or xs i x → now ≡ map f (take i xs) → now ++ f x ∷ [] ≡ map f (take (i + 1) xs)
mapped f xs now i x inside is h = ap (λ ys. ys ++ f x ∷ []) h ∙ sym (map_more f xs i x inside ∙ ap (λ y. map f (take i xs) ++ f y ∷ []) (sym is))

-- ---- rows

pub numbered_push : (xs : List Drawn) (x : Drawn) (row : ℕ) → numbered (xs ++ x ∷ []) row ≡ numbered xs row ++ in_row x (length xs + row) ∷ []
numbered_push [] x row = ap (λ (i : ℕ). in_row x i ∷ []) (let e : row ≡ 0 + row = omega arith in e)
numbered_push (y ∷ ys) x row =
    ap (λ zs. in_row y row ∷ zs)
    (numbered_push ys x (suc row) ∙ ap (λ (i : ℕ). numbered ys (suc row) ++ in_row x i ∷ []) (let e : length ys + suc row ≡ suc (length ys) + row = omega arith in e))

numbered_length : (xs : List Drawn) (row : ℕ) → length (numbered xs row) ≡ length xs
numbered_length [] row = refl
numbered_length (x ∷ xs) row = ap suc (numbered_length xs (suc row))

-- One more stroke is appended, with the next row number.
pub numbered_more : (xs : List Drawn) (x stroke : Drawn) (old new : List Drawn) (row : ℕ) → old ≡ numbered xs 0 → row ≡ length old → stroke ≡ in_row x row → new ≡ old ++ stroke ∷ [] → new ≡ numbered (xs ++ x ∷ []) 0
numbered_more xs x stroke old new row so long is then =
    let many = ap length so ∙ numbered_length xs 0 in
    let at : row ≡ length xs + 0 = omega arith in
    then
    ∙ (ap (λ (y : Drawn). old ++ y ∷ []) (is ∙ ap (in_row x) at)
    ∙ (ap (λ ys. ys ++ in_row x (length xs + 0) ∷ []) so ∙ sym (numbered_push xs x 0)))

-- ---- orders

seen_first : (seen : List ℕ) (x : Chain) (rest : List Chain) (b : Bool) → on seen x.order ≡ b →
    seen ++ orders (cond b (firsts seen rest) (x ∷ firsts (x.order ∷ seen) rest))
    ≡ cond b (seen ++ orders (firsts seen rest)) ((seen ++ x.order ∷ []) ++ orders (firsts (seen ++ x.order ∷ []) rest))
seen_first seen x rest true e = refl
seen_first seen x rest false e =
    sym (append_assoc seen (x.order ∷ []) (orders (firsts (seen ++ x.order ∷ []) rest))
    ∙ ap (λ (ys : List Chain). seen ++ x.order ∷ orders ys) (firsts_alike (seen ++ x.order ∷ []) (x.order ∷ seen) rest (λ v. at_the_end seen x.order v)))

-- One more chain is considered, whose order was already found or is new.
pub order_there : (chains : List Chain) (i : ℕ) (x : Chain) (seen whole : List ℕ) → i < length chains → x ≡ get_or chains i x → on seen x.order ≡ true
    → seen ++ orders (firsts seen (drop i chains)) ≡ whole → seen ++ orders (firsts seen (drop (i + 1) chains)) ≡ whole
order_there chains i x seen whole inside is there so =
    let rest : List Chain = drop (i + 1) chains in
    let left : drop i chains ≡ x ∷ rest = drop_more chains i x inside ∙ ap (λ y. y ∷ rest) (sym is) in
    sym (ap (λ ys. seen ++ orders (firsts seen ys)) left
    ∙ (seen_first seen x rest (on seen x.order) refl ∙ ap (λ b. cond b (seen ++ orders (firsts seen rest)) ((seen ++ x.order ∷ []) ++ orders (firsts (seen ++ x.order ∷ []) rest))) there))
    ∙ so

pub order_new : (chains : List Chain) (i : ℕ) (x : Chain) (seen whole : List ℕ) → i < length chains → x ≡ get_or chains i x → on seen x.order ≡ false
    → seen ++ orders (firsts seen (drop i chains)) ≡ whole → (seen ++ x.order ∷ []) ++ orders (firsts (seen ++ x.order ∷ []) (drop (i + 1) chains)) ≡ whole
order_new chains i x seen whole inside is new so =
    let rest : List Chain = drop (i + 1) chains in
    let left : drop i chains ≡ x ∷ rest = drop_more chains i x inside ∙ ap (λ y. y ∷ rest) (sym is) in
    sym (ap (λ ys. seen ++ orders (firsts seen ys)) left
    ∙ (seen_first seen x rest (on seen x.order) refl ∙ ap (λ b. cond b (seen ++ orders (firsts seen rest)) ((seen ++ x.order ∷ []) ++ orders (firsts (seen ++ x.order ∷ []) rest))) new))
    ∙ so

pub orders_all : (chains : List Chain) (i : ℕ) (seen whole : List ℕ) → length chains ≤ i → seen ++ orders (firsts seen (drop i chains)) ≡ whole → seen ≡ whole
orders_all chains i seen whole past so = sym (append-nil seen) ∙ (ap (λ ys. seen ++ orders (firsts seen ys)) (sym (drop_all i chains past)) ∙ so)

pub order_more : (chains : List Chain) (i : ℕ) (x : Chain) (seen new whole : List ℕ) → i < length chains → x ≡ get_or chains i x → new ≡ added_also seen x.order
    → seen ++ orders (firsts seen (drop i chains)) ≡ whole → new ++ orders (firsts new (drop (i + 1) chains)) ≡ whole
order_more chains i x seen new whole inside is then so = by_case (on seen x.order) refl then
  where
    by_case : (b : Bool) → on seen x.order ≡ b → new ≡ cond b seen (seen ++ x.order ∷ []) → new ++ orders (firsts new (drop (i + 1) chains)) ≡ whole
    by_case true there e = ap (λ ys. ys ++ orders (firsts ys (drop (i + 1) chains))) e ∙ order_there chains i x seen whole inside is there so
    by_case false fresh e = ap (λ ys. ys ++ orders (firsts ys (drop (i + 1) chains))) e ∙ order_new chains i x seen whole inside is fresh so

-- One more stroke is appended for one more order.
pub grouped_more : (f : ℕ → Drawn) (os : List ℕ) (start old new : List Drawn) (i o d : ℕ) → i < length os → o ≡ get_or os i d → old ≡ start ++ map f (take i os) → new ≡ old ++ f o ∷ [] → new ≡ start ++ map f (take (i + 1) os)
grouped_more f os start old new i o d inside is first then =
    then
    ∙ (ap (λ xs. xs ++ f o ∷ []) first
    ∙ (append_assoc start (map f (take i os)) (f o ∷ [])
    ∙ ap (λ xs. start ++ xs) (sym (map_more f os i d inside ∙ ap (λ y. map f (take i os) ++ f y ∷ []) (sym is)))))

pub grouped_all : (f : ℕ → Drawn) (os : List ℕ) (start new : List Drawn) (i : ℕ) → length os ≤ i → new ≡ start ++ map f (take i os) → new ≡ start ++ map f os
grouped_all f os start new i past h = h ∙ ap (λ xs. start ++ map f xs) (take_all i os past)

-- ---- lists that are gathered

pub round_more : {A : Type 0} (f : ℕ → List A) (n : ℕ) (start old new piece : List A) → old ≡ start ++ flat_map f (range_with_len 0 n) → piece ≡ f n → new ≡ old ++ piece → new ≡ start ++ flat_map f (range_with_len 0 (n + 1))
round_more f n start old new piece first is then =
    then ∙ (ap (λ xs. xs ++ piece) first ∙ (ap (λ xs. (start ++ flat_map f (range_with_len 0 n)) ++ xs) is ∙ range_items f n start))

three_behind : (old one two three : List Drawn) → ((old ++ one) ++ two) ++ three ≡ old ++ (one ++ two ++ three)
three_behind old one two three = simp append_assoc

-- The strokes between two generals: for owed chains that were sent, for other chains that were sent, and for owed
-- chains that were not sent.
pub told_three : (round p g : ℕ) (sent owed xs ys zs : List Chain) (old a b d : List Drawn) → xs ≡ filter (is_among owed) sent → ys ≡ filter (λ ch. not (is_among owed ch)) sent → zs ≡ filter (λ ch. not (is_among sent ch)) owed
    → a ≡ old ++ grouped (way round p g true false) xs → b ≡ a ++ grouped (way round p g true true) ys → d ≡ b ++ grouped (way round p g false true) zs
    → d ≡ old ++ told_between round p g sent owed
told_three round p g sent owed xs ys zs old a b d ex ey ez first then last =
    let one : List Chain → List Drawn = grouped (way round p g true false) in
    let two : List Chain → List Drawn = grouped (way round p g true true) in
    let three : List Chain → List Drawn = grouped (way round p g false true) in
    last
    ∙ (ap (λ ds. ds ++ three zs) (then ∙ ap (λ ds. ds ++ two ys) first)
    ∙ (three_behind old (one xs) (two ys) (three zs)
    ∙ (ap (λ k. old ++ (one k ++ two ys ++ three zs)) ex
    ∙ (ap (λ k. old ++ (one (filter (is_among owed) sent) ++ two k ++ three zs)) ey
    ∙ ap (λ k. old ++ (one (filter (is_among owed) sent) ++ two (filter (λ ch. not (is_among owed ch)) sent) ++ three k)) ez))))
