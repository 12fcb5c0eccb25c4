-- One text is written after another, and a piece in several calls.
use Rattle.std.proofs.Common.{◌≡◌, ℕ, zero, suc, ◌+◌, ◌-◌, ◌<◌, ◌≤◌, arith, List, [], ◌∷◌, ◌++◌, length, map, take, drop, get_or, Bool, true, false, refl, sym, ap, subst, ◌∙◌, append_assoc, append-nil, Option}
use Rattle.std.specs.Prelude.{decimal, OnOk, Result, Ok, Err}
use Rattle.std.proofs.Math.ListN.{set, length-set}
use Rattle.std.proofs.lemmas.List.{take-append-drop, take_all, drop-set, drop_all, take_more, map-append}
use Rattle.std.specs.Io.KnownBytes.{Appends, Keeps}
use Rattle.std.proofs.KnownBytes.{Appends-nil, Appends-trans, Appends-kept}
use Rattle.mem.proofs.Parts.{take-split}
use Rattle.trace.specs.Sinks.{Wrote, WroteBut}
use Rattle.trace.specs.Text.{Word, further}

either : (b : Bool) (A : Type 0) → (b ≡ true → A) → (b ≡ false → A) → A
either true A x y = x refl
either false A x y = y refl

appends-same : (a b : Option (List ℕ)) (x y : List ℕ) → x ≡ y → Appends a b x → Appends a b y
appends-same a b x y e h = subst (λ t. Appends a b t) e h

-- A text is written after another one.
pub then_wrote : {a b c : Option (List ℕ)} {x y : List ℕ} {f g h : Bool} → Wrote a f x b g → Wrote b g y c h → Wrote a f (x ++ y) c h
then_wrote {a} {b} {c} {x} {y} {f} {g} {h} v w =
    either g (Wrote a f (x ++ y) c h)
    (λ failed. record {
      front = v.front;
      rest = v.rest ++ y;
      parts = ap (λ t. t ++ y) v.parts ∙ append_assoc v.front v.rest y;
      grown = appends-same a c (v.front ++ w.front) v.front (ap (λ t. v.front ++ t) (w.nothing failed) ∙ append-nil v.front) (Appends-trans a b c v.front w.front v.grown w.grown);
      whole = λ e. absurd (let q = w.sound e in let r = failed in cc);
      sound = λ e. absurd (let q = w.sound e in let r = failed in cc);
      nothing = v.nothing;
    })
    (λ fine.
    let all : x ≡ v.front = v.parts ∙ ap (λ t. v.front ++ t) (v.whole fine) ∙ append-nil v.front in
    record {
      front = x ++ w.front;
      rest = w.rest;
      parts = ap (λ t. x ++ t) w.parts ∙ sym (append_assoc x w.front w.rest);
      grown = appends-same a c (v.front ++ w.front) (x ++ w.front) (ap (λ t. t ++ w.front) (sym all)) (Appends-trans a b c v.front w.front v.grown w.grown);
      whole = w.whole;
      sound = λ e. v.sound fine;
      nothing = λ e. absurd (let q = v.sound fine in let r = e in cc);
    })

-- Nothing is written.
pub wrote-nothing : {a : Option (List ℕ)} {f : Bool} → Wrote a f [] a f
wrote-nothing {a} {f} = record { front = []; rest = []; parts = refl; grown = Appends-nil a; whole = λ e. refl; sound = λ e. e; nothing = λ e. refl }

-- An empty text is written.
pub wrote_none : {a : Option (List ℕ)} {f : Bool} (x : List ℕ) → x ≡ [] → Wrote a f x a f
wrote_none {a} {f} x e = subst (λ t. Wrote a f t a f) (sym e) wrote-nothing

-- A text is replaced by an equal one.
pub wrote-same : {a b : Option (List ℕ)} {f g : Bool} (x y : List ℕ) → x ≡ y → Wrote a f x b g → Wrote a f y b g
wrote-same {a} {b} {f} {g} x y e w = subst (λ t. Wrote a f t b g) e w

-- The text that was still in a buffer is written, too.
pub then_rest : {a b c : Option (List ℕ)} {x left : List ℕ} {f g h : Bool} → WroteBut a f x b g left → Wrote b g left c h → Wrote a f x c h
then_rest {a} {b} {c} {x} {left} {f} {g} {h} v w = wrote-same _ _ v.2 (then_wrote v.1 w)

pub drop-length : (n : ℕ) (xs : List ℕ) → n ≤ length xs → length (drop n xs) + n ≡ length xs
drop-length zero xs le = omega arith
drop-length (suc n) [] le = absurd (omega arith)
drop-length (suc n) (x ∷ xs) le = let h = drop-length n xs (omega arith) in omega arith

-- Returns the part of a piece from index `from` on, which is passed to the next call.
abbrev pub behind : ℕ → List ℕ → List ℕ
behind from piece = take (length piece - from) (drop from piece)

behind_is : (piece : List ℕ) (from : ℕ) → from < length piece → behind from piece ≡ drop from piece
behind_is piece from lt = let long = drop-length from piece (omega arith) in take_all (length piece - from) (drop from piece) (omega arith)

-- A call has accepted more bytes.
pub put_more : (piece : List ℕ) (from n : ℕ) (old mid new : Option (List ℕ)) → from < length piece → n ≤ length (behind from piece)
    → Appends old mid (take from piece) → Appends mid new (take n (behind from piece)) → (from + n ≤ length piece) × Appends old new (take (from + n) piece)
put_more piece from n old mid new lt le so then =
    let long = drop-length from piece (omega arith) in
    let all = behind_is piece from lt in
    let le' : n ≤ length (drop from piece) = (let A : List ℕ → Type 0 = λ t. n ≤ length t in subst A all le) in
    ((omega arith), appends-same old new (take from piece ++ take n (behind from piece)) (take (from + n) piece) (ap (λ t. take from piece ++ take n t) all ∙ sym (take-split from n piece)) (Appends-trans old mid new (take from piece) (take n (behind from piece)) so then))

-- A call has accepted no byte.
pub put_none : (piece : List ℕ) (from : ℕ) (old mid new : Option (List ℕ)) (f after : Bool) → Appends old mid (take from piece) → Keeps mid new → after ≡ true → f ≡ false → Wrote old f piece new after
put_none piece from old mid new f after so same failed fine = record {
  front = take from piece;
  rest = drop from piece;
  parts = sym (take-append-drop from piece);
  grown = Appends-kept old mid new (take from piece) so same;
  whole = λ e. absurd (let r = failed in cc);
  sound = λ e. fine;
  nothing = λ e. absurd (let r = fine in cc);
}

-- All bytes were accepted.
pub put_whole : (piece : List ℕ) (from : ℕ) (old new : Option (List ℕ)) (f after : Bool) → from ≤ length piece → length piece ≤ from → Appends old new (take from piece) → after ≡ false → f ≡ false → Wrote old f piece new after
put_whole piece from old new f after le ge so fine was = record {
  front = piece;
  rest = [];
  parts = sym (append-nil piece);
  grown = appends-same old new (take from piece) piece (take_all from piece ge) so;
  whole = λ e. refl;
  sound = λ e. was;
  nothing = λ e. absurd (let r = was in cc);
}

-- The sink had failed before.
pub put_failed : (piece : List ℕ) (old : Option (List ℕ)) (f : Bool) → f ≡ true → Wrote old f piece old f
put_failed piece old f failed = record {
  front = [];
  rest = piece;
  parts = refl;
  grown = Appends-nil old;
  whole = λ e. absurd (let r = failed in cc);
  sound = λ e. e;
  nothing = λ e. refl;
}

pub some_left : (piece : List ℕ) (from : ℕ) → from < length piece → 0 < length (behind from piece)
some_left piece from lt =
    let long = drop-length from piece (omega arith) in
    (let A : List ℕ → Type 0 = λ t. 0 < length t in subst A (sym (behind_is piece from lt)) (omega arith))

-- Digits are written after a sign, at the end of an array of 21 bytes.
pub next_digits : (sign n s : ℕ) (old new : List ℕ) → s + length (decimal n) ≡ 21 → 1 ≤ s → length new ≡ 21 → length old ≡ 21 → drop s new ≡ decimal n ++ drop 21 old
    → take (21 - (s - 1)) (drop (s - 1) (set new (s - 1) sign)) ≡ sign ∷ decimal n
next_digits sign n s old new e le long short w =
    let k : ℕ = s - 1 in
    let sk : k + 1 ≡ s = omega arith in
    let room : k < length new = omega arith in
    let row = set new k sign in
    let wide : length row ≡ length new = length-set new k sign in
    let rest = drop-length k row (omega arith) in
    take_all (21 - k) (drop k row) (omega arith)
    ∙ drop-set new k sign room
    ∙ ap (λ j. sign ∷ drop j new) sk
    ∙ ap (λ t. sign ∷ t) (w ∙ ap (λ t. decimal n ++ t) (drop_all 21 old (omega arith)) ∙ append-nil (decimal n))

-- Words after words.
pub further-append : (vs ws : List Word) → further (vs ++ ws) ≡ further vs ++ further ws
further-append [] ws = refl
further-append (v ∷ vs) ws = ap (λ t. 32 ∷ v ++ t) (further-append vs ws) ∙ sym (append_assoc (32 ∷ v) (further vs) (further ws))

pub further-one : (w : Word) → further (w ∷ []) ≡ 32 ∷ w
further-one w = append-nil (32 ∷ w)

-- One more word of a list is written.
pub further_more : {X : Type 0} (word : X → Word) (xs : List X) (i : ℕ) (d : X) → i < length xs → further (map word (take (i + 1) xs)) ≡ further (map word (take i xs)) ++ (32 ∷ word (get_or xs i d))
further_more {X} word xs i d lt =
    let x : X = get_or xs i d in
    ap (λ t. further (map word t)) (take_more xs i d lt) ∙ ap further (map-append word (take i xs) (x ∷ [])) ∙ further-append (map word (take i xs)) (word x ∷ []) ∙ ap (λ t. further (map word (take i xs)) ++ t) (further-one (word x))

pub one_further : {X : Type 0} {a b c : Option (List ℕ)} {f g h : Bool} (word : X → Word) (xs : List X) (i : ℕ) (d : X) → i < length xs
    → Wrote a f (further (map word (take i xs))) b g → Wrote b g (32 ∷ word (get_or xs i d)) c h → Wrote a f (further (map word (take (i + 1) xs))) c h
one_further {X} {a} {b} {c} {f} {g} {h} word xs i d lt so then = wrote-same _ _ (sym (further_more word xs i d lt)) (then_wrote so then)

-- If the sink has not failed, the whole text was written.
pub wrote-all : {a b : Option (List ℕ)} {f g : Bool} {x : List ℕ} → Wrote a f x b g → g ≡ false → Appends a b x
wrote-all {a} {b} {f} {g} {x} w fine = appends-same a b w.front x (sym (w.parts ∙ ap (λ t. w.front ++ t) (w.whole fine) ∙ append-nil w.front)) w.grown

-- So a call that returns no error has written the whole text.
pub all-written : {E : Type 0} (r : Result (Unit {0}) E) {a b : Option (List ℕ)} {f g : Bool} {x : List ℕ} → OnOk r (g ≡ false) → Wrote a f x b g → OnOk r (Appends a b x)
all-written (Ok u) fine w = wrote-all w fine
all-written (Err e) fine w = tt
