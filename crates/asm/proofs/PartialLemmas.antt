-- The text of bytes is assembled to these bytes.
use Rattle.std.proofs.Common.{◌≡◌, ◌∙◌, ◌<◌, ◌+◌, ℕ, Bool, true, false, List, [], ◌∷◌, ◌++◌, length, refl, sym, ap, subst, append_assoc, append-nil, arith}
use Rattle.std.specs.Prelude.{◌==◌, if◌then◌else◌, codes, Some, Result, Ok, Err, slice_index}
use Rattle.std.specs.Result.{result_ok}
use Rattle.text.specs.declared.stop.Stop.TheVariants.{Solid}
use Rattle.text.specs.Stop.{feed, semicolon}
use Rattle.text.specs.Parts as parts
use Rattle.text.specs.Parts.{before, from}
use Rattle.text.proofs.CutLemmas.{Lacks, lines_of-append, pieces-all, pieces-append}
use Rattle.hex.specs.Hex.{encode_lower}
use Rattle.insn.specs.declared.insn.Insn.{Insn}
use Rattle.insn.specs.Insn.{IsInsn}
use Rattle.insn.proofs.SlotLemmas.{length-slots_of-cons}
use Rattle.codec.specs.declared.fault.CodecFault.{CodecFault}
use Rattle.codec.specs.declared.fault.CodecFault.TheVariants as fault
use Rattle.codec.specs.Spelling.{instruction_bytes}
use Rattle.codec.specs.ErrorText.{code_of}
use Rattle.codec.proofs.FrontLemmas.{units_few}
use Rattle.asm.specs.declared.fault.AsmError.{AsmError}
use Rattle.asm.specs.declared.fault.AsmFault.{AsmFault}
use Rattle.asm.specs.Faults.{at_line, ◌>>=◌}
use Rattle.asm.specs.Printing.{insn_text, text_of}
use Rattle.asm.specs.Program.{ended, lines_of, nothing, program_in, program_of, read_on, said}
use Rattle.asm.proofs.KeepingLemmas.{lines_first}
use Rattle.asm.proofs.OutlineLemmas.{insn_lacks_feed, without_return-insn}
use Rattle.asm.proofs.RoundLemmas.{program_of-text}
use Rattle.asm.specs.Pieces.{Piece, Spelled, Raw, IsFirst, ArePieces}
use Rattle.asm.specs.PieceText.{IsTextOf, kind_of, piece_text, pieces_text}
use Rattle.asm.specs.Reading.{alone, bytes_on, bytes_said, is_dotted, line_bytes, raw_in}
use Rattle.asm.proofs.ByteLemmas.{AreBytes, parts_bytes}
use Rattle.asm.proofs.NameLemmas.{begins_insn, begins_some, undotted}
use Rattle.asm.proofs.RawLemmas.{raw_lacks_feed, raw_says}

-- ---- an instruction's line

ended_one : (text : List ℕ) → 0 < length text → ended (text ∷ []) ≡ text ∷ []
ended_one [] some = absurd (omega arith)
ended_one (c ∷ cs) some = refl

said_by_lines : (a b : List ℕ) → lines_of a ≡ lines_of b → said a ≡ said b
unfolding said
said_by_lines a b same = ap (λ (lines : List (List ℕ)). read_on nothing 1 lines >>= λ r. program_in (length lines) r) same

lines_of-insn : (insn : Insn) → IsInsn insn → lines_of (insn_text insn) ≡ insn_text insn ∷ []
lines_of-insn insn is =
    ap ended (pieces-all feed (insn_text insn) (insn_lacks_feed insn is)) ∙ ended_one (insn_text insn) (begins_some (insn_text insn) (begins_insn insn))

lines_of-text : (insn : Insn) → IsInsn insn → lines_of (text_of (insn ∷ [])) ≡ insn_text insn ∷ []
lines_of-text insn is =
    ap lines_of (append-nil (insn_text insn ++ 10 ∷ []))
    ∙ lines_first (insn_text insn ++ 10 ∷ []) (insn_text insn) [] (insn_text insn) (pieces-append feed (insn_text insn) 10 [] (insn_lacks_feed insn is) refl) (sym (without_return-insn insn is))

ok_from : (r : Result (List Insn) AsmError) (program : List Insn) → result_ok r ≡ Some program → r ≡ Ok program
ok_from (Ok own) program e = let same : own ≡ program = cc in ap Ok same
ok_from (Err error) program e = absurd cc

one_unit : (insn : Insn) → IsInsn insn → program_of (text_of (insn ∷ [])) ≡ Some (insn ∷ [])
one_unit insn is = let few = units_few insn in program_of-text (insn ∷ []) (is, tt) (omega (arith, length-slots_of-cons insn [])) (omega (arith, length-slots_of-cons insn []))

said_alone : (insn : Insn) → IsInsn insn → said (insn_text insn) ≡ Ok (insn ∷ [])
said_alone insn is =
    said_by_lines (insn_text insn) (text_of (insn ∷ [])) (lines_of-insn insn is ∙ sym (lines_of-text insn is))
    ∙ ok_from (said (text_of (insn ∷ []))) (insn ∷ []) (one_unit insn is)

undotted_line : (line : List ℕ) → is_dotted line ≡ false → line_bytes line ≡ alone (said line)
undotted_line line un = ap (λ (b : Bool). if b then raw_in (before semicolon (from Solid line)) else alone (said line)) un

insn_says : (insn : Insn) → IsInsn insn → line_bytes (insn_text insn) ≡ Ok (instruction_bytes insn)
insn_says insn is =
    undotted_line (insn_text insn) (undotted (insn_text insn) (begins_insn insn))
    ∙ (ap alone (said_alone insn is) ∙ ap Ok (append-nil (instruction_bytes insn)))

-- ---- a piece's line

-- The comment has no line feed.
left_lacks : (wide call small large : Bool) → Lacks feed
    (32 ∷ (codes "C6" ++ (if wide then codes " wide load" else if call then codes " call" else if small then codes " atomic32" else if large then codes " atomic64" else codes " packet")))
left_lacks true call small large = refl
left_lacks false true small large = refl
left_lacks false false true large = refl
left_lacks false false false true = refl
left_lacks false false false false = refl

kind_lacks : (fault : CodecFault) (opcode : ℕ) → Lacks feed (32 ∷ (code_of fault ++ kind_of fault opcode))
kind_lacks fault.Length opcode = refl
kind_lacks fault.Opcode opcode = refl
kind_lacks fault.Reserved opcode = refl
kind_lacks fault.WideCut opcode = refl
kind_lacks fault.Register opcode = refl
kind_lacks fault.LeftOut opcode = left_lacks (opcode == 24) (opcode == 133) (opcode == 195) (opcode == 219)
kind_lacks fault.Operand opcode = refl
kind_lacks fault.Count opcode = refl

regroup : (a h s c k : List ℕ) → (((a ++ h) ++ s) ++ c) ++ k ≡ a ++ (h ++ (s ++ (c ++ k)))
regroup a h s c k = simp append_assoc

raw_text : (unit : List ℕ) (fault : CodecFault) → piece_text (Raw unit fault) ≡ codes ".unit 0x" ++ (encode_lower unit ++ 32 ∷ 59 ∷ 32 ∷ (code_of fault ++ kind_of fault (slice_index unit 0)))
raw_text unit fault = regroup (codes ".unit 0x") (encode_lower unit) (codes " ; ") (code_of fault) (kind_of fault (slice_index unit 0))

abbrev pub piece_bytes : Piece → List ℕ
piece_bytes (Spelled insn) = instruction_bytes insn
piece_bytes (Raw unit fault) = unit

piece_is : (piece : Piece) (bytes rest : List ℕ) → IsFirst bytes piece rest → bytes ≡ piece_bytes piece ++ rest
piece_is (Spelled insn) bytes rest first = first.1
piece_is (Raw unit fault) bytes rest first = first.2

piece_says : (piece : Piece) (bytes rest : List ℕ) → AreBytes (piece_bytes piece) → IsFirst bytes piece rest → line_bytes (piece_text piece) ≡ Ok (piece_bytes piece)
piece_says (Spelled insn) bytes rest are first = insn_says insn first.0
piece_says (Raw unit fault) bytes rest are first =
    ap line_bytes (raw_text unit fault) ∙ raw_says unit (32 ∷ (code_of fault ++ kind_of fault (slice_index unit 0))) first.0 are

piece_lacks : (piece : Piece) (bytes rest : List ℕ) → AreBytes (piece_bytes piece) → IsFirst bytes piece rest → Lacks feed (piece_text piece)
piece_lacks (Spelled insn) bytes rest are first = insn_lacks_feed insn first.0
piece_lacks (Raw unit fault) bytes rest are first =
    subst (λ (t : List ℕ). Lacks feed t) (sym (raw_text unit fault))
    (raw_lacks_feed unit (32 ∷ (code_of fault ++ kind_of fault (slice_index unit 0))) are (kind_lacks fault (slice_index unit 0)))

-- ---- all pieces

says_step : (line own done : List ℕ) (number : ℕ) (lines : List (List ℕ)) → line_bytes line ≡ Ok own
    → bytes_on done number (line ∷ lines) ≡ bytes_on (done ++ own) (number + 1) lines
says_step line own done number lines says =
    ap (λ (r : Result (List ℕ) AsmFault). at_line number r >>= λ bytes. bytes_on (done ++ bytes) (number + 1) lines) says

says_on : (pieces : List Piece) (bytes done : List ℕ) (number : ℕ) → AreBytes bytes → ArePieces pieces bytes
    → bytes_on done number (parts.lines_of (pieces_text pieces)) ≡ Ok (done ++ bytes)
says_on [] bytes done number small are = ap Ok (sym (append-nil done)) ∙ ap (λ (b : List ℕ). Ok (done ++ b)) (sym are)
says_on (piece ∷ pieces) bytes done number small (rest, first, are) =
    let own : List ℕ = piece_bytes piece in
    let is : bytes ≡ own ++ rest = piece_is piece bytes rest first in
    let both = parts_bytes own rest (subst AreBytes is small) in
    let lines : parts.lines_of (pieces_text (piece ∷ pieces)) ≡ piece_text piece ∷ parts.lines_of (pieces_text pieces) =
    ap parts.lines_of (append_assoc (piece_text piece) (10 ∷ []) (pieces_text pieces))
    ∙ lines_of-append (piece_text piece) (pieces_text pieces) (piece_lacks piece bytes rest both.0 first) in
    ap (bytes_on done number) lines
    ∙ (says_step (piece_text piece) own done number (parts.lines_of (pieces_text pieces)) (piece_says piece bytes rest both.0 first)
    ∙ (says_on pieces rest (done ++ own) (number + 1) both.1 are
    ∙ ap Ok (append_assoc done own rest ∙ ap (λ (b : List ℕ). done ++ b) (sym is))))

-- The text of bytes is assembled to them.
pub says_again : (bytes text : List ℕ) → AreBytes bytes → IsTextOf bytes text → bytes_said text ≡ Ok bytes
unfolding bytes_said
says_again bytes text small (pieces, are, told) = ap (λ (t : List ℕ). bytes_on [] 1 (parts.lines_of t)) told ∙ says_on pieces bytes [] 1 small are
