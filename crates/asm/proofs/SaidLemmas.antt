-- In the program of a text, 32 bits are sign-extended only to 64.
use Rattle.std.proofs.Common.{◌≡◌, ℕ, ◌+◌, ◌<◌, ◌≤◌, Bool, true, false, cond, List, [], ◌∷◌, ◌++◌, Option, Some, None, map, get_or, length, refl, sym, subst}
use Rattle.std.specs.Prelude.{Result, Ok, Err, is_some, slice_index, ◌^◌}
use Rattle.std.specs.Option.{ok_or}
use Rattle.std.specs.List.{AllByRecursion}
use Rattle.std.proofs.lemmas.Option.{same_Some}
use Rattle.insn.specs.declared.insn.Insn.{Insn}
use Rattle.insn.specs.Insn.{IsWell}
use Rattle.insn.proofs.WellLemmas.{all_push, all_at}
use Rattle.asm.specs.declared.fault.AsmFault.{AsmFault}
use Rattle.asm.specs.declared.fault.AsmFault.TheVariants as faults
use Rattle.asm.specs.declared.fault.AsmError.{AsmError}
use Rattle.asm.specs.declared.mnemonic.Mnemonic.{Mnemonic}
use Rattle.asm.specs.declared.mnemonic.Mnemonic.TheVariants as words
use Rattle.asm.specs.declared.draft.Kept.{Kept}
use Rattle.asm.specs.declared.reader.Reading.{Reading}
use Rattle.asm.specs.Number.{number_of, signed_within, bits_within}
use Rattle.asm.specs.Operand.{register_of, raw_of, fitted, place_of, goal_of, is_letter}
use Rattle.asm.specs.Faults.{at_line, ◌>>=◌}
use Rattle.asm.specs.Helper.{helper_of}
use Rattle.asm.specs.Statement.{Source, IsWellSource, source_of, none_of, one_of, two_of, three_of, statement_of}
use Rattle.asm.specs.Line.{outline_of}
use Rattle.asm.specs.Distance.{defined}
use Rattle.asm.specs.Table.{IsMnemonic, mnemonic_of}
use Rattle.asm.specs.Views.{kept_view}
use Rattle.asm.specs.Keeping.{Keeps, AreWellKept}
use Rattle.asm.specs.Program.{Placed, Read, with_name, with_source, with_words, with_line, line_read, read_on, nothing}
use Rattle.asm.proofs.TableLaws.{mnemonic_read}

-- An instruction that is read is well-formed.
abbrev GivesWell : Result Source AsmFault → Type 0
GivesWell (Err e) = Unit {0}
GivesWell (Ok s) = IsWellSource s

after : {A : Type 0} (o : Option A) (e : AsmFault) (f : A → Result Source AsmFault) → ((a : A) → GivesWell (f a)) → GivesWell (ok_or o e >>= f)
after None e f h = tt
after (Some a) e f h = h a

either : (b : Bool) (x y : Result Source AsmFault) → GivesWell x → GivesWell y → GivesWell (cond b x y)
either true x y p q = p
either false x y p q = q

-- For each mnemonic: all instructions but the sign extension always are.
source_well : (m : Mnemonic) (os : List (List ℕ)) → IsMnemonic m → GivesWell (source_of m os)
source_well (words.Arithmetic width operation) os well = after (two_of os) faults.Operand _ (λ o. after (register_of o.0) faults.Operand _ (λ dst. after (raw_of o.1) faults.Operand _ (λ raw. after (fitted raw) faults.Range _ (λ operand. tt))))
source_well (words.Negate width) os well = after (one_of os) faults.Operand _ (λ a. after (register_of a) faults.Operand _ (λ dst. tt))
source_well (words.SignExtend width part) os well = after (two_of os) faults.Operand _ (λ o. after (register_of o.0) faults.Operand _ (λ dst. after (register_of o.1) faults.Operand _ (λ src. well)))
source_well (words.Swap order bytes) os well = after (one_of os) faults.Operand _ (λ a. after (register_of a) faults.Operand _ (λ dst. tt))
source_well words.LoadImmediate os well = after (two_of os) faults.Operand _ (λ o. after (register_of o.0) faults.Operand _ (λ dst. after (number_of o.1) faults.Operand _ (λ n. after (bits_within n) faults.Range _ (λ number. tt))))
source_well words.Jump os well = after (one_of os) faults.Operand _ (λ a. after (goal_of a) faults.Operand _ (λ goal. tt))
source_well words.LongJump os well = after (one_of os) faults.Operand _ (λ a. after (goal_of a) faults.Operand _ (λ goal. tt))
source_well (words.Branch width condition) os well = after (three_of os) faults.Operand _ (λ o. after (register_of o.0) faults.Operand _ (λ dst. after (raw_of o.1) faults.Operand _ (λ raw. after (goal_of o.2) faults.Operand _ (λ goal. after (fitted raw) faults.Range _ (λ operand. tt)))))
source_well (words.Load part) os well = after (two_of os) faults.Operand _ (λ o. after (register_of o.0) faults.Operand _ (λ dst. after (place_of o.1) faults.Operand _ (λ place. after (signed_within (2 ^ 15) place.1) faults.Range _ (λ offset. tt))))
source_well (words.LoadSigned part) os well = after (two_of os) faults.Operand _ (λ o. after (register_of o.0) faults.Operand _ (λ dst. after (place_of o.1) faults.Operand _ (λ place. after (signed_within (2 ^ 15) place.1) faults.Range _ (λ offset. tt))))
source_well (words.StoreRegister part) os well = after (two_of os) faults.Operand _ (λ o. after (place_of o.0) faults.Operand _ (λ place. after (register_of o.1) faults.Operand _ (λ src. after (signed_within (2 ^ 15) place.1) faults.Range _ (λ offset. tt))))
source_well (words.StoreNumber part) os well = after (two_of os) faults.Operand _ (λ o. after (place_of o.0) faults.Operand _ (λ place. after (number_of o.1) faults.Operand _ (λ n. after (signed_within (2 ^ 15) place.1) faults.Range _ (λ offset. after (signed_within (2 ^ 31) n) faults.Range _ (λ number. tt)))))
source_well words.Call os well = after (one_of os) faults.Operand _ (λ a. either (is_letter (slice_index a 0)) _ _ (after (helper_of a) faults.Operand _ (λ helper. tt)) (after (number_of a) faults.Operand _ (λ n. after (signed_within (2 ^ 31) n) faults.Range _ (λ helper. tt))))
source_well words.Exit os well = after (none_of os) faults.Operand _ (λ o. tt)

-- The value from which the result comes.
pub bound : {A B E : Type 0} (o : Result A E) (f : A → Result B E) (b : B) → (o >>= f) ≡ Ok b → (a : A) × (o ≡ Ok a) × (f a ≡ Ok b)
bound (Err e) f b h = absurd cc
bound (Ok a) f b h = (a, refl, h)

pub had : {A B E : Type 0} (o : Option A) (e : E) (f : A → Result B E) (b : B) → (ok_or o e >>= f) ≡ Ok b → (a : A) × (o ≡ Some a) × (f a ≡ Ok b)
had None e f b h = absurd cc
had (Some a) e f b h = (a, refl, h)

pub held : {A B : Type 0} (line : ℕ) (o : Result A AsmFault) (f : A → Result B AsmError) (b : B) → (at_line line o >>= f) ≡ Ok b → (a : A) × (o ≡ Ok a) × (f a ≡ Ok b)
held line (Err e) f b h = absurd cc
held line (Ok a) f b h = (a, refl, h)

inside : {A E : Type 0} (o : Result A E) (x y : A) → o ≡ Ok x → o ≡ Ok y → x ≡ y
inside o x y e h = cc

statement_well : (words : List (List ℕ)) (s : Source) → statement_of words ≡ Ok (Some s) → IsWellSource s
statement_well [] s h = absurd cc
statement_well (word ∷ os) s h =
    let m = had (mnemonic_of word) faults.Mnemonic (λ m. source_of m os >>= λ source. Ok (Some source)) (Some s) h in
    let said = bound (source_of m.0 os) (λ source. Ok (Some source)) (Some s) m.2 in
    let well : IsWellSource said.0 = subst GivesWell said.1 (source_well m.0 os (mnemonic_read word m.0 m.1).0) in
    subst IsWellSource (same_Some said.0 s (inside _ (Some said.0) (Some s) refl said.2)) well

-- All instructions so far.
abbrev pub IsWellPlaced : Placed → Type 0
IsWellPlaced p = IsWellSource p.source

abbrev AreWell : Read → Type 0
AreWell r = AllByRecursion IsWellPlaced r.sources

added_well : (words : List (List ℕ)) (r n : Read) (line : ℕ) (said : Option Source) → statement_of words ≡ Ok said → with_source r line said ≡ n → AreWell r → AreWell n
added_well words r n line None h e all = subst AreWell e all
added_well words r n line (Some s) h e all = subst AreWell e (all_push IsWellPlaced r.sources (record { source = s; line = line }) all (statement_well words s h))

words_well : (words : List (List ℕ)) (line : ℕ) (r n : Read) → with_words r line words ≡ Ok n → AreWell r → AreWell n
unfolding with_words
words_well words line r n h all =
    let said = bound (statement_of words) (λ s. Ok (with_source r line s)) n h in
    added_well words r n line said.0 said.1 (inside _ (with_source r line said.0) n refl said.2) all

pub free : (b : Bool) (x y : Read) → cond b (Err faults.Twice) (Ok x) ≡ Ok y → x ≡ y
free true x y h = absurd cc
free false x y h = inside _ x y refl h

name_well : (r n : Read) (name : Option (List ℕ)) → with_name r name ≡ Ok n → AreWell r → AreWell n
name_well r n None h all = subst AreWell (inside _ r n refl h) all
name_well r n (Some name) h all = subst AreWell (free (is_some (defined r.names name)) _ n h) all

line_well : (text : List ℕ) (line : ℕ) (r n : Read) → line_read r line text ≡ Ok n → AreWell r → AreWell n
unfolding line_read with_line
line_well text line r n h all =
    let o = had (outline_of text) faults.Line (λ o. with_line r line o) n h in
    let named = bound (with_name r o.0.name) (λ next. with_words next line o.0.words) n o.2 in
    words_well o.0.words line named.0 n named.2 (name_well r named.0 o.0.name named.1 all)

read_well : (texts : List (List ℕ)) (line : ℕ) (r n : Read) → read_on r line texts ≡ Ok n → AreWell r → AreWell n
read_well [] line r n h all = subst AreWell (inside _ r n refl h) all
read_well (text ∷ texts) line r n h all =
    let next = held line (line_read r line text) (λ next. read_on next (line + 1) texts) n h in
    read_well texts (line + 1) next.0 n next.2 (line_well text line r next.0 next.1 all)

kept_well : (kepts : List Kept) → AllByRecursion IsWellPlaced (map kept_view kepts) → AreWellKept kepts
kept_well [] all = tt
kept_well (k ∷ ks) all = (all.0, kept_well ks all.1)

-- What was read from a text.
pub gathered_well : (kept : Reading) (texts : List (List ℕ)) (r : Read) → read_on nothing 1 texts ≡ Ok r → Keeps kept r → kept.units ≤ 4096 → AreWellKept kept.sources.items
gathered_well kept texts r h k few = kept_well kept.sources.items (subst (AllByRecursion IsWellPlaced) (sym (k.sources few)) (read_well texts 1 nothing r h tt))

-- One of these instructions.
pub kept_well_at : (sources : List Kept) (i : ℕ) (k : Kept) → AreWellKept sources → i < length sources → k ≡ get_or sources i k → IsWellSource (kept_view k).source
kept_well_at sources i k all lt at = subst (λ x. IsWellSource (kept_view x).source) (sym at) (all_at (λ x. IsWellSource (kept_view x).source) sources i k all lt)

-- One more instruction.
pub insns_well_pushed : (insns new : List Insn) (i : Insn) → AllByRecursion IsWell insns → IsWell i → new ≡ insns ++ i ∷ [] → AllByRecursion IsWell new
insns_well_pushed insns new i all well e = subst (AllByRecursion IsWell) (sym e) (all_push IsWell insns i all well)
