-- The sentence that says why a program is rejected (own).
use Rattle.std.specs.Prelude.{ℕ, ℤ, pos, ◌-ℤ◌, List, ◌++◌, codes, decimal, int_le, length, if◌then◌else◌}
use Rattle.std.specs.Fmt.{signed_decimal}
use Rattle.asm.specs.Helper.{helpers}
use Rattle.semantics.specs.declared.value.Region.{Region}
use Rattle.semantics.specs.declared.value.Region.TheVariants.{Stack, Context}
use Rattle.semantics.specs.declared.request.Helper.{Helper}
use Rattle.absval.specs.declared.value.AbsVal.{AbsVal}
use Rattle.explain.specs.declared.values.NumberSpan.{NumberSpan}
use Rattle.explain.specs.declared.sentence.Sentence.{Sentence}
use Rattle.explain.specs.declared.sentence.Sentence.TheVariants as sentence
use Rattle.explain.specs.declared.sentence.Structure.{Structure}
use Rattle.explain.specs.declared.sentence.Structure.TheVariants as structure
use Rattle.explain.specs.declared.sentence.RegisterMisuse.{RegisterMisuse}
use Rattle.explain.specs.declared.sentence.RegisterMisuse.TheVariants as misuse
use Rattle.explain.specs.declared.sentence.AccessMisuse.{AccessMisuse}
use Rattle.explain.specs.declared.sentence.AccessMisuse.TheVariants as access
use Rattle.explain.specs.declared.sentence.Misfit.{Misfit}
use Rattle.explain.specs.declared.sentence.Misfit.TheVariants as misfit
use Rattle.explain.specs.Names.{helper_name}
use Rattle.explain.specs.Values.{span_text, region_text, value_text}

-- Writes the unit to which a jump leads.
unfoldable pub leads_text : ℤ → List ℕ
leads_text to = codes "the jump leads to unit " ++ signed_decimal to

-- Writes the sentence about the structure of a program: a jump at fault, or a missing exit.
abbrev pub structure_text : Structure → List ℕ
structure_text (structure.Back to) = leads_text to ++ codes ": a jump must lead forward, so unroll loops (in C: `#pragma unroll`)"
structure_text (structure.Out to units) = leads_text to ++ codes ", but the number of units is " ++ decimal units
structure_text (structure.Inside to) = leads_text to ++ codes ", inside a wide instruction"
structure_text structure.NoExit = codes "the last instruction is not the exit"

-- Writes a range of offsets in a region.
unfoldable pub place_text : Region → NumberSpan → List ℕ
place_text region span = codes "the " ++ region_text region ++ codes " at " ++ span_text (span.low, span.high)

-- Writes a register, and the range of offsets in a region that may be reached through it.
unfoldable pub reached_text : ℕ → Region → NumberSpan → List ℕ
reached_text r region span = codes "r" ++ decimal r ++ codes " may reach " ++ place_text region span

-- Writes the beginning `rN would point` of a sentence.
unfoldable pub would_text : ℕ → List ℕ
would_text r = codes "r" ++ decimal r ++ codes " would point"

-- Writes a register, and what is known of it.
abbrev pub named_text : ℕ → AbsVal → List ℕ
named_text r value = codes "r" ++ decimal r ++ codes " " ++ value_text value

-- Writes the limit that offsets pass, of which `high` is the greatest.
abbrev pub limit_text : ℤ → List ℕ
limit_text high = if int_le high (pos 65536) then codes "-65536" else codes "65536"

-- Writes a range of offsets in a region, and the limit that they pass.
unfoldable pub past_text : Region → NumberSpan → List ℕ
past_text region span = place_text region span ++ codes ", past " ++ limit_text span.high

-- Writes the sentence about a misuse of a register.
abbrev pub misuse_text : RegisterMisuse → List ℕ
misuse_text (misuse.Unset r) =
    codes "r" ++ decimal r ++ codes " is read, but may be unset, or of different kinds on different paths"
misuse_text misuse.Frame = codes "r10 is written, but it must mark the end of the stack"
misuse_text (misuse.Far r region span) = would_text r ++ codes " into " ++ past_text region span
misuse_text (misuse.EitherSign r value) = named_text r value
    ++ codes ": a number that moves a pointer is read as signed, and this one may be above or below 0"
misuse_text (misuse.Computed r value) = named_text r value
    ++ (codes ": a pointer can only be copied as 64 bits, or, in its own register, "
    ++ codes "have a number added or subtracted in 64 bits")
misuse_text (misuse.Compared r value) = named_text r value ++ codes ": only numbers can be compared"
misuse_text (misuse.Stored r value base at) =
    named_text r value ++ codes ", stored at " ++ named_text base at
    ++ codes ": a pointer can be stored only as 8 bytes, with one offset, at one address"
misuse_text (misuse.NoBase r value) = named_text r value ++ codes ": memory can be reached only by a pointer"
misuse_text (misuse.Exit value) = named_text 0 value ++ codes ": a program must end with a number in r0"

-- Writes the first and the last offset of a region.
abbrev pub extent_text : Region → List ℕ
extent_text Stack = codes "-512 to -1"
extent_text Context = codes "0 to 4095"

-- Writes the sentence about a misuse of memory.
abbrev pub access_text : AccessMisuse → List ℕ
access_text (access.Outside r region span) =
    reached_text r region span ++ codes ": its bytes are " ++ extent_text region
access_text (access.Empty r span cell) =
    reached_text r Stack span ++ codes ": no byte is known at " ++ signed_decimal (pos cell -ℤ pos 512)
access_text (access.Context r value) = named_text r value ++ codes ": the context is read-only"

-- Writes the greatest number that a helper accepts in an argument.
unfoldable pub above_text : Helper → ℕ → List ℕ
above_text called most = helper_name called ++ (codes " accepts numbers up to " ++ decimal most ++ codes " here")

-- Writes that a helper accepts only a pointer in an argument.
unfoldable pub pointer_text : Helper → List ℕ
pointer_text called = helper_name called ++ codes " accepts only a pointer here"

-- Writes the beginning of the sentence that no helper has a number.
unfoldable pub no_helper_text : List ℕ
no_helper_text = codes "no helper has the number "

-- Writes which numbers the helpers have.
unfoldable pub numbers_text : List ℕ
numbers_text = codes ": helpers are numbered 1 to " ++ decimal (length helpers)

-- Writes the beginning of the sentence that slot and count together go past the end of the board.
unfoldable pub together_text : List ℕ
together_text = codes "the sum of r1 and r3 may be "

-- Writes the sentence about a call that does not fit its helper.
abbrev pub misfit_text : Misfit → List ℕ
misfit_text (misfit.Helper number) = no_helper_text ++ signed_decimal number ++ numbers_text
misfit_text (misfit.Above called r value most) = named_text r value ++ codes ": " ++ above_text called most
misfit_text (misfit.NoPointer called r value) = named_text r value ++ codes ": " ++ pointer_text called
misfit_text (misfit.Board sum) = together_text ++ decimal sum ++ codes ", but the board has 64 words"

-- Writes a sentence that says why a program is rejected.
abbrev pub sentence_text : Sentence → List ℕ
sentence_text (sentence.Structure s) = structure_text s
sentence_text (sentence.Register m) = misuse_text m
sentence_text (sentence.Memory a) = access_text a
sentence_text (sentence.Call m) = misfit_text m
