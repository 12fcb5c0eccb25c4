-- Lemmas about reading the files of `--sum`, one after the other.
use Rattle.std.proofs.Common.{ℕ, ◌+◌, ◌≡◌, ◌≢◌, List, [], ◌∷◌, ◌++◌, get_or, length, refl, sym, ap, subst, ◌∙◌, arith, append_assoc, append-nil, length-append, Option, None, Some, ◌⊎◌, ⊎_elim, inl, inr}
use Rattle.std.specs.Prelude.{flat_map, ◌<◌, String, string_bytes}
use Rattle.std.specs.Global.{Global}
use Rattle.std.specs.List.{All, AllZip}
use Rattle.std.proofs.lemmas.List.Elements.{All-append, All-cons, All-nil}
use Rattle.rayon.proofs.ListFacts.{AllZip-append}
use Rattle.surveys.specs.declared.finding.Finding.{Finding}
use Rattle.surveys.specs.Parts.{AreOf, IsFaulty, IsLed, IsOf, IsPart, IsReadOn, found_in, row_text}
use Rattle.surveys.proofs.PartLemmas.{all_both}
use Rattle.surveys.specs.declared.parts.PartError.{PartError}
use Rattle.surveys.specs.declared.parts.PartError.TheVariants as part
use Rattle.surveyor.specs.Faults.{IsFirst, IsNameAt, IsNoPart, IsPartLine, IsRefusedFile, IsUntold}
use Rattle.surveyor.specs.Faults.IsFirst.{itself, earlier}
use Rattle.surveyor.specs.Summed.{joined, span_of}
use Rattle.surveyor.specs.declared.fault.SurveyFailure.{SurveyFailure}
use Rattle.surveyor.specs.declared.fault.SurveyFailure.TheVariants.{Unread, NotText, Unwritten, Refused, Campaign, Words, Memory}
use Rattle.surveyor.specs.declared.task.Merge.{Merge}

joined_more : (parts : List (List Finding)) (part : List Finding) → joined (parts ++ part ∷ []) ≡ joined parts ++ part
joined_more [] part = append-nil part
joined_more (p ∷ parts) part = ap (λ (l : List Finding). p ++ l) (joined_more parts part) ∙ sym (append_assoc p (joined parts) part)

-- A file without a head has no lines.
headless : (bytes h : List ℕ) (found : List Finding) → IsPart [] bytes found → IsPart h bytes found
headless bytes h found part = by part.rows part.led part.whole part.told
  where
    by : (rows : List (Option Finding)) → IsLed [] rows → bytes ≡ flat_map (row_text []) rows → found ≡ found_in rows → IsPart h bytes found
    by [] led whole told = record { rows = []; led = tt; whole = whole; told = told }
    by (None ∷ rows) led whole told = absurd (let e = ap length led.line.whole in let l = length-append led.line.front (10 ∷ []) in omega arith)
    by (Some f ∷ rows) led whole told = absurd led

-- The first of these texts that is not empty is that of the file `first`.
pub record IsLedBy (m : Merge) (texts : List (List ℕ)) (first : List ℕ) : Type 0 where
  pub empty : List (List ℕ)
  pub rest : List (List ℕ)
  pub text : List ℕ
  pub whole : texts ≡ empty ++ text ∷ rest
  pub none : All (λ t. t ≡ []) empty
  pub some : text ≢ []
  pub named : IsNameAt m (length empty) first

-- The first `count` files are parts of one survey. If they have lines, `first` is the first file that does.
pub record AreTold (m : Merge) (head first : List ℕ) (count : ℕ) (found : List Finding) : Type 0 where
  pub texts : List (List ℕ)
  pub parts : List (List Finding)
  pub each : (h : List ℕ) → (head ≢ [] → h ≡ head) → AllZip (IsPart h) texts parts
  pub named : length texts ≡ count
  pub whole : found ≡ joined parts
  pub seeds : AreOf (span_of m.seeds).0 (span_of m.seeds).1 found
  pub blank : head ≡ [] → All (λ t. t ≡ []) texts
  pub begun : head ≢ [] → IsLedBy m texts first

pub none_told : (m : Merge) (head first : List ℕ) (count : ℕ) (found : List Finding) → head ≡ [] → count ≡ 0 → found ≡ [] → AreTold m head first count found
none_told m head first count found headless none is =
    record {
      texts = [];
      parts = [];
      each = λ h same. tt;
      named = sym none;
      whole = is;
      seeds = subst (λ (l : List Finding). AreOf (span_of m.seeds).0 (span_of m.seeds).1 l) (sym is) tt;
      blank = λ _. All-nil (λ t. t ≡ []);
      begun = λ some. absurd (some headless);
    }

with_head : (head h bytes : List ℕ) (told : List Finding) → (head ≢ [] → h ≡ head) → IsPart head bytes told → IsPart h bytes told
with_head [] h bytes told same part = headless bytes h told part
with_head (x ∷ head) h bytes told same part = subst (λ (l : List ℕ). IsPart l bytes told) (sym (same (λ e. (let n = ap length e in omega arith)))) part

-- A file that is not empty has a head.
some_head : (head bytes : List ℕ) (found : List Finding) → IsPart head bytes found → bytes ≢ [] → head ≢ []
some_head head bytes found part some = by part.rows part.led part.whole
  where
    by : (rows : List (Option Finding)) → IsLed head rows → bytes ≡ flat_map (row_text head) rows → head ≢ []
    by [] led whole = absurd (some whole)
    by (None ∷ rows) led whole = λ none. (let e = ap length (sym none ∙ led.line.whole) in let l = length-append led.line.front (10 ∷ []) in omega (arith, e, l))
    by (Some f ∷ rows) led whole = absurd led

-- A text is empty or not.
is_empty : (xs : List ℕ) → (xs ≡ []) ⊎ (xs ≢ [])
is_empty [] = inl refl
is_empty (x ∷ xs) = inr (λ e. (let n = ap length e in omega arith))

led_more : (m : Merge) (texts : List (List ℕ)) (first bytes : List ℕ) → IsLedBy m texts first → IsLedBy m (texts ++ bytes ∷ []) first
led_more m texts first bytes h =
    record {
      empty = h.empty;
      rest = h.rest ++ bytes ∷ [];
      text = h.text;
      whole = ap (λ (l : List (List ℕ)). l ++ bytes ∷ []) h.whole ∙ append_assoc h.empty (h.text ∷ h.rest) (bytes ∷ []);
      none = h.none;
      some = h.some;
      named = h.named;
    }

-- The facts about the files that are read still hold with one more file.
still_blank : (m : Merge) (before head first bytes : List ℕ) (count : ℕ) (old new : List Finding) (all : AreTold m before first count old) → IsReadOn before head bytes (span_of m.seeds).0 (span_of m.seeds).1 old new → head ≡ [] → All (λ t. t ≡ []) (all.texts ++ bytes ∷ [])
still_blank m before head first bytes count old new all read none = All-append (λ t. t ≡ []) all.texts (bytes ∷ []) (⊎_elim (λ e. all.blank e) (λ some. absurd (some (sym (read.further.same some) ∙ none))) (is_empty before)) (All-cons (λ t. t ≡ []) bytes [] no_bytes (All-nil (λ t. t ≡ [])))
  where
    no_bytes : bytes ≡ []
    no_bytes = ⊎_elim (λ e. e) (λ some. absurd (some_head head bytes read.told read.further.part some none)) (is_empty bytes)

then_begun : (m : Merge) (before head first name later bytes : List ℕ) (count : ℕ) (old new : List Finding) (all : AreTold m before first count old) → IsNameAt m count name → (before ≡ [] → later ≡ name) → (before ≢ [] → later ≡ first)
    → IsReadOn before head bytes (span_of m.seeds).0 (span_of m.seeds).1 old new → head ≢ [] → IsLedBy m (all.texts ++ bytes ∷ []) later
then_begun m before head first name later bytes count old new all at fresh kept read some = ⊎_elim headless_so_far headed (is_empty before)
  where
    headed : before ≢ [] → IsLedBy m (all.texts ++ bytes ∷ []) later
    headed had = subst (λ (n : List ℕ). IsLedBy m (all.texts ++ bytes ∷ []) n) (sym (kept had)) (led_more m all.texts first bytes (all.begun had))

    headless_so_far : before ≡ [] → IsLedBy m (all.texts ++ bytes ∷ []) later
    headless_so_far none = subst (λ (n : List ℕ). IsLedBy m (all.texts ++ bytes ∷ []) n) (sym (fresh none)) (record {
      empty = all.texts;
      rest = [];
      text = bytes;
      whole = refl;
      none = all.blank none;
      some = λ e. some (read.unread e ∙ none);
      named = subst (λ (n : ℕ). IsNameAt m n name) (sym all.named) at;
    })

one_told : (m : Merge) (before head first name later bytes : List ℕ) (count more : ℕ) (old new : List Finding) → more ≡ count + 1 → IsNameAt m count name → (before ≡ [] → later ≡ name) → (before ≢ [] → later ≡ first) → AreTold m before first count old
    → IsReadOn before head bytes (span_of m.seeds).0 (span_of m.seeds).1 old new → AreTold m head later more new
one_told m before head first name later bytes count more old new one at fresh kept all read =
    record {
      texts = all.texts ++ bytes ∷ [];
      parts = all.parts ++ read.told ∷ [];
      each = λ h same. AllZip-append (IsPart h) all.texts (bytes ∷ []) all.parts (read.told ∷ [])
          (all.each h (λ some. (let e = read.further.same some in same (λ none. some (sym e ∙ none)) ∙ e)))
          (with_head head h bytes read.told same read.further.part, tt);
      named = (let l = length-append all.texts (bytes ∷ []) in let n = all.named in omega arith);
      whole = read.behind ∙ (ap (λ (l : List Finding). l ++ read.told) all.whole ∙ sym (joined_more all.parts read.told));
      seeds = subst (λ (l : List Finding). AreOf (span_of m.seeds).0 (span_of m.seeds).1 l) (sym read.behind) (all_both (IsOf (span_of m.seeds).0 (span_of m.seeds).1) old read.told all.seeds read.further.seeds);
      blank = λ none. still_blank m before head first bytes count old new all read none;
      begun = λ some. then_begun m before head first name later bytes count old new all at fresh kept read some;
    }

-- The file that sets the family is the one that the error line names.
first_is : (m : Merge) (before first name later : List ℕ) (count : ℕ) (found : List Finding) (all : AreTold m before first count found) → (before ≡ [] → later ≡ name) → (before ≢ [] → later ≡ first) → IsFirst m all.texts name before later
first_is m before first name later count found all fresh kept = ⊎_elim headless_so_far headed (is_empty before)
  where
    headless_so_far : before ≡ [] → IsFirst m all.texts name before later
    headless_so_far none = subst (λ (n : List ℕ). IsFirst m all.texts name before n) (sym (fresh none)) (subst (λ (h : List ℕ). IsFirst m all.texts name h name) (sym none) (itself (all.blank none)))

    headed : before ≢ [] → IsFirst m all.texts name before later
    headed some = let h = all.begun some in subst (λ (n : List ℕ). IsFirst m all.texts name before n) (sym (kept some)) (earlier h.empty h.rest h.text before first h.whole h.none h.some h.named)

line_told : (m : Merge) (before after first name later bytes line : List ℕ) (count : ℕ) (old new : List Finding) (e : PartError) → IsNameAt m count name → (before ≡ [] → later ≡ name) → (before ≢ [] → later ≡ first) → AreTold m before first count old
    → IsFaulty before after bytes (span_of m.seeds).0 (span_of m.seeds).1 old new e → IsPartLine name later e line → IsRefusedFile m line
line_told m before after first name later bytes line count old new e at fresh kept all wrong told =
    record {
      texts = all.texts;
      parts = all.parts;
      head = before;
      each = all.each before (λ some. refl);
      name = name;
      named = subst (λ (n : ℕ). IsNameAt m n name) (sym all.named) at;
      first = later;
      begins = first_is m before first name later count old all fresh kept;
      text = bytes;
      error = e;
      after = after;
      found = new;
      wrong = subst (λ (l : List Finding). IsFaulty before after bytes (span_of m.seeds).0 (span_of m.seeds).1 l new e) all.whole wrong;
      told = told;
    }

-- One more file is read, and its seeds are among those that may occur.
pub told_more : (m : Merge) (k more : ℕ) (own : String Global) (before head first later bytes : List ℕ) (old new : List Finding) (span : ℕ × ℕ) → k < length m.names.items → get_or m.names.items k own ≡ own → more ≡ k + 1 → (before ≡ [] → later ≡ string_bytes own) → (before ≢ [] → later ≡ first)
    → AreTold m before first k old → span ≡ span_of m.seeds → IsReadOn before head bytes span.0 span.1 old new → AreTold m head later more new
told_more m k more own before head first later bytes old new span less at one fresh kept all is read =
    one_told m before head first (string_bytes own) later bytes k more old new one (own, less, at, refl) fresh kept all (subst (λ (s : ℕ × ℕ). IsReadOn before head bytes s.0 s.1 old new) is read)

pub no_part_told : (m : Merge) (k : ℕ) (own : String Global) (before after first later bytes : List ℕ) (old new : List Finding) (span : ℕ × ℕ) (e : PartError) (fault : SurveyFailure) → k < length m.names.items → get_or m.names.items k own ≡ own → (before ≡ [] → later ≡ string_bytes own) → (before ≢ [] → later ≡ first)
    → AreTold m before first k old → span ≡ span_of m.seeds → (e ≢ part.Memory → IsFaulty before after bytes span.0 span.1 old new e) → IsNoPart (string_bytes own) later e fault → IsUntold m fault
no_part_told m k own before after first later bytes old new span e (Unread name) less at fresh kept all is wrong h = absurd h
no_part_told m k own before after first later bytes old new span e (NotText name) less at fresh kept all is wrong h = absurd h
no_part_told m k own before after first later bytes old new span e (Unwritten name) less at fresh kept all is wrong h = absurd h
no_part_told m k own before after first later bytes old new span e Memory less at fresh kept all is wrong h = tt
no_part_told m k own before after first later bytes old new span e (Refused line) less at fresh kept all is wrong h =
    line_told m before after first (string_bytes own) later bytes (string_bytes line) k old new e (own, less, at, refl) fresh kept all (subst (λ (s : ℕ × ℕ). IsFaulty before after bytes s.0 s.1 old new e) is (wrong h.0)) h
no_part_told m k own before after first later bytes old new span e (Campaign low high error) less at fresh kept all is wrong h = absurd h
no_part_told m k own before after first later bytes old new span e Words less at fresh kept all is wrong h = absurd h
