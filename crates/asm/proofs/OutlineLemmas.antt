-- A printed line is split correctly, and is read as its instruction.
use Rattle.std.proofs.Common.{◌≡◌, ℕ, zero, suc, ◌-◌, Bool, true, false, List, [], ◌∷◌, ◌++◌, Option, Some, None, length, get_or, refl, ap, ◌∙◌, arith, append-nil}
use Rattle.std.specs.Prelude.{Ok, not, ◌==◌, ◌&&◌, nat_lt, nat_le}
use Rattle.std.specs.List.{list_all}
use Rattle.std.proofs.lemmas.Bool.Decides.{nat_tests}
use Rattle.std.proofs.lemmas.Bool.{and_parts}
use Rattle.text.specs.declared.stop.Stop.TheVariants.{Blank, Solid}
use Rattle.text.specs.Stop.{is_stop, colon, semicolon, feed}
use Rattle.text.specs.Parts.{until, before}
use Rattle.text.proofs.BytesLemmas.{all-append, all-weaker}
use Rattle.text.proofs.CutLemmas.{Lacks, until-all, before-all, before-append}
use Rattle.insn.specs.declared.insn.Insn.{Insn}
use Rattle.insn.specs.declared.insn.Insn.TheVariants as insns
use Rattle.insn.specs.declared.insn.Operand.TheVariants.{Register, Immediate}
use Rattle.insn.specs.Insn.{IsInsn}
use Rattle.asm.specs.Table.{IsMnemonic, name_of}
use Rattle.asm.specs.Line.{Outline, is_word, line_words, outlined, outline_of}
use Rattle.asm.specs.Program.{Read, without_return, with_words, with_line, line_read}
use Rattle.asm.specs.Printing.{more_text, operands_text, word_of, operands_of, insn_text}
use Rattle.asm.proofs.MnemonicLemmas.{mnemonic_of-name}
use Rattle.asm.proofs.SourceLemmas.{source_for, source_of-text}
use Rattle.asm.proofs.TokenLemmas.{is_plain, IsPlain, ArePlain, plain_operands}
use Rattle.asm.proofs.WordLemmas.{is_fine, is_fine-name}
use Rattle.asm.proofs.WordsLemmas.{plain_blank, until_solid, line_words-text}

-- A byte of a line: visible or a space, and not a semicolon.
abbrev pub in_line : ℕ → Bool
in_line c = nat_le 32 c && nat_lt c 128 && not (c == 59)

plain_in_line : (c : ℕ) → is_plain c ≡ true → in_line c ≡ true
plain_in_line c h = grind (arith, nat_tests)

plain_colon : (c : ℕ) → is_plain c ≡ true → not (is_stop colon c) ≡ true
plain_colon c h = grind (arith, nat_tests)

line_semicolon : (c : ℕ) → in_line c ≡ true → not (is_stop semicolon c) ≡ true
line_semicolon c h = grind (arith, nat_tests)

line_feed : (c : ℕ) → in_line c ≡ true → not (is_stop feed c) ≡ true
line_feed c h = grind (arith, nat_tests)

line_return : (c : ℕ) → in_line c ≡ true → (c == 13) ≡ false
line_return c h = grind (arith, nat_tests)

line_more : (ts : List (List ℕ)) → ArePlain ts → list_all in_line (more_text ts) ≡ true
line_more [] ps = refl
line_more (t ∷ ts) ps = all-append in_line t (more_text ts) (all-weaker is_plain in_line plain_in_line t ps.0.bytes) (line_more ts ps.1)

line_operands : (ts : List (List ℕ)) → ArePlain ts → list_all in_line (operands_text ts) ≡ true
line_operands [] ps = refl
line_operands (t ∷ ts) ps = all-append in_line t (more_text ts) (all-weaker is_plain in_line plain_in_line t ps.0.bytes) (line_more ts ps.1)

line_bytes : (w : List ℕ) (ts : List (List ℕ)) → IsPlain w → ArePlain ts → list_all in_line (w ++ operands_text ts) ≡ true
line_bytes w ts p ps = all-append in_line w (operands_text ts) (all-weaker is_plain in_line plain_in_line w p.bytes) (line_operands ts ps)

-- There is no carriage return at the end.
no_return : (xs : List ℕ) (k : ℕ) → list_all in_line xs ≡ true → (get_or xs k 0 == 13) ≡ false
no_return [] k h = refl
no_return (x ∷ xs) zero h = line_return x (and_parts (in_line x) _ h).0
no_return (x ∷ xs) (suc k) h = no_return xs k (and_parts (in_line x) _ h).1

return_free : (line : List ℕ) → list_all in_line line ≡ true → without_return line ≡ line
return_free line h = rw (no_return line (length line - 1) h) refl

-- The parts of the line.
not_less : (n : ℕ) → nat_lt n n ≡ false
not_less n = grind (arith, nat_tests)

outlined-line : (code w : List ℕ) (ts : List (List ℕ)) → before Blank code ≡ w → until colon w ≡ length w → line_words code ≡ Some (w ∷ ts) → outlined code ≡ Some (record { name = None; words = w ∷ ts })
unfolding outlined
outlined-line code w ts b u h = rw (b, u, not_less (length w), h) refl

outline_of-line : (line : List ℕ) (o : Option Outline) → before semicolon line ≡ line → until Solid line ≡ 0 → outlined line ≡ o → outline_of line ≡ o
unfolding outline_of
outline_of-line line o b u h = rw (b, u) h

before_blank : (w : List ℕ) (ts : List (List ℕ)) → IsPlain w → before Blank (w ++ operands_text ts) ≡ w
before_blank w [] p = ap (before Blank) (append-nil w) ∙ before-all Blank w (all-weaker is_plain (λ c. not (is_stop Blank c)) plain_blank w p.bytes)
before_blank w (t ∷ ts) p = before-append Blank w 32 (t ++ more_text ts) (all-weaker is_plain (λ c. not (is_stop Blank c)) plain_blank w p.bytes) refl

outline_of-text : (w : List ℕ) (ts : List (List ℕ)) → is_word w ≡ true → IsPlain w → ArePlain ts → outline_of (w ++ operands_text ts) ≡ Some (record { name = None; words = w ∷ ts })
outline_of-text w ts word p ps =
    let line : List ℕ = w ++ operands_text ts in
    outline_of-line line _ (before-all semicolon line (all-weaker in_line (λ c. not (is_stop semicolon c)) line_semicolon line (line_bytes w ts p ps)))
    (until_solid w (operands_text ts) p.some p.bytes)
    (outlined-line line w ts (before_blank w ts p) (until-all colon w (all-weaker is_plain (λ c. not (is_stop colon c)) plain_colon w p.bytes)) (line_words-text w ts word p ps))

-- The mnemonic of an instruction.
fine_word : (w : List ℕ) → is_fine w ≡ true → is_word w ≡ true
fine_word w h = (and_parts (nat_lt 0 (length w)) (is_word w) (and_parts (nat_lt 0 (length w) && is_word w) _ h).0).1

fine_plain : (w : List ℕ) → is_fine w ≡ true → IsPlain w
fine_plain w h =
    let some : nat_lt 0 (length w) ≡ true = (and_parts (nat_lt 0 (length w)) (is_word w) (and_parts (nat_lt 0 (length w) && is_word w) _ h).0).0 in
    record { bytes = (and_parts (nat_lt 0 (length w) && is_word w) _ h).1; some = grind (arith, nat_tests) }

is_mnemonic : (i : Insn) → IsInsn i → IsMnemonic (word_of i)
is_mnemonic (insns.SignExtend width part dst src) is = is.0
is_mnemonic (insns.Arithmetic width operation dst operand) is = tt
is_mnemonic (insns.Negate width dst) is = tt
is_mnemonic (insns.Swap order size dst) is = tt
is_mnemonic (insns.LoadImmediate dst number) is = tt
is_mnemonic (insns.Jump distance) is = tt
is_mnemonic (insns.LongJump distance) is = tt
is_mnemonic (insns.Branch width condition dst operand distance) is = tt
is_mnemonic (insns.Load size dst base offset) is = tt
is_mnemonic (insns.LoadSigned part dst base offset) is = tt
is_mnemonic (insns.Store size base offset (Register src)) is = tt
is_mnemonic (insns.Store size base offset (Immediate number)) is = tt
is_mnemonic (insns.Call helper) is = tt
is_mnemonic insns.Exit is = tt

pub insn_lacks_feed : (i : Insn) → IsInsn i → Lacks feed (insn_text i)
unfolding insn_text
insn_lacks_feed i is = all-weaker in_line (λ c. not (is_stop feed c)) line_feed (insn_text i) (line_bytes (name_of (word_of i)) (operands_of i) (fine_plain (name_of (word_of i)) (is_fine-name (word_of i))) (plain_operands i is))

pub without_return-insn : (i : Insn) → IsInsn i → without_return (insn_text i) ≡ insn_text i
unfolding insn_text
without_return-insn i is = return_free (insn_text i) (line_bytes (name_of (word_of i)) (operands_of i) (fine_plain (name_of (word_of i)) (is_fine-name (word_of i))) (plain_operands i is))

outline_of-insn : (i : Insn) → IsInsn i → outline_of (insn_text i) ≡ Some (record { name = None; words = name_of (word_of i) ∷ operands_of i })
unfolding insn_text
outline_of-insn i is = outline_of-text (name_of (word_of i)) (operands_of i) (fine_word (name_of (word_of i)) (is_fine-name (word_of i))) (fine_plain (name_of (word_of i)) (is_fine-name (word_of i))) (plain_operands i is)

pub line_read-insn : (r : Read) (line : ℕ) (i : Insn) → IsInsn i → line_read r line (insn_text i) ≡ Ok (record r { sources = r.sources ++ (record { source = source_for i; line = line }) ∷ [] })
unfolding line_read with_line with_words
line_read-insn r line i is = rw (outline_of-insn i is, mnemonic_of-name (word_of i) (is_mnemonic i is), source_of-text i is) refl
