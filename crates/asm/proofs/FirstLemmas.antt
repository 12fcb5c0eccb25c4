-- The first fault of a text.
use Rattle.std.proofs.Common.{◌≡◌, ℕ, ◌+◌, ◌<◌, ◌≤◌, ◌⊎◌, inl, inr, Bool, true, false, cond, List, [], ◌∷◌, ◌++◌, length, refl, ap, subst, ◌∙◌, arith}
use Rattle.std.specs.Prelude.{Result, Ok, Err, max, ◌&&◌, nat_lt, nat_le}
use Rattle.std.specs.List.{sum_by}
use Rattle.std.proofs.lemmas.Bool.Decides.{nat_tests}
use Rattle.std.proofs.lemmas.List.Sums.{sum_by-cons}
use Rattle.insn.specs.declared.insn.Insn.{Insn}
use Rattle.asm.specs.declared.fault.AsmFault.{AsmFault}
use Rattle.asm.specs.declared.fault.AsmFault.TheVariants.{Count}
use Rattle.asm.specs.declared.fault.AsmError.{AsmError}
use Rattle.asm.specs.declared.fault.AsmError.TheVariants.{At}
use Rattle.asm.specs.Faults.{at_line, ◌>>=◌}
use Rattle.asm.specs.Program.{Placed, Read, placed_units, units_in, line_read, read_on, nothing, insn_of, insns_on, program_in, lines_of, said}
use Rattle.asm.specs.Laws.{IsFirstLine, IsMiscounted, IsFirstJump}
use Rattle.asm.proofs.SaidLemmas.{held}

-- The first of these lines that has a fault, after what was read.
record FirstFrom (r : Read) (start : ℕ) (lines : List (List ℕ)) (e : AsmError) : Type 0 where
  front : List (List ℕ)
  line : List ℕ
  back : List (List ℕ)
  parts : lines ≡ front ++ line ∷ back
  fault : AsmFault
  number : ℕ
  counted : number ≡ start + length front
  before : Read
  faultless : read_on r start front ≡ Ok before
  own : line_read before number line ≡ Err fault
  is : e ≡ At fault number

-- One more line.
read_step : (r : Read) (start : ℕ) (line : List ℕ) (lines : List (List ℕ)) (e : AsmError) (o : Result Read AsmFault) → line_read r start line ≡ o
    → ((next : Read) → read_on next (start + 1) lines ≡ Err e → FirstFrom next (start + 1) lines e)
    → (at_line start o >>= λ next. read_on next (start + 1) lines) ≡ Err e → FirstFrom r start (line ∷ lines) e
read_step r start line lines e (Err f) said ih h = record {
  front = [];
  line = line;
  back = lines;
  parts = refl;
  fault = f;
  number = start;
  counted = omega arith;
  before = r;
  faultless = refl;
  own = said;
  is = cc;
}
read_step r start line lines e (Ok next) said ih h =
    let more = ih next h in
    record {
      front = line ∷ more.front;
      line = more.line;
      back = more.back;
      parts = ap (λ l. line ∷ l) more.parts;
      fault = more.fault;
      number = more.number;
      counted = omega (arith, more.counted);
      before = more.before;
      faultless = rw said more.faultless;
      own = more.own;
      is = more.is;
    }

read_first : (lines : List (List ℕ)) (r : Read) (start : ℕ) (e : AsmError) → read_on r start lines ≡ Err e → FirstFrom r start lines e
read_first [] r start e h = absurd cc
read_first (line ∷ lines) r start e h = read_step r start line lines e (line_read r start line) refl (λ next. read_first lines next (start + 1) e) h

read_same : (r before : Read) (start : ℕ) → read_on r start [] ≡ Ok before → before ≡ r
read_same r before start h = cc

read_stops_here : (line : List ℕ) (back : List (List ℕ)) (r before : Read) (start number : ℕ) (fault : AsmFault)
    → before ≡ r → number ≡ start → line_read before number line ≡ Err fault → read_on r start (line ∷ back) ≡ Err (At fault number)
read_stops_here line back r before start number fault same here own =
    let P : Read → Type 0 = λ x. line_read x number line ≡ Err fault in
    let Q : ℕ → Type 0 = λ k. line_read r k line ≡ Err fault in
    let e : line_read r start line ≡ Err fault = subst Q here (subst P same own) in
    rw here (rw e refl)

-- A line with a fault, after lines without one.
read_stops : (front : List (List ℕ)) (line : List ℕ) (back : List (List ℕ)) (r before : Read) (start number : ℕ) (fault : AsmFault)
    → read_on r start front ≡ Ok before → number ≡ start + length front → line_read before number line ≡ Err fault
    → read_on r start (front ++ line ∷ back) ≡ Err (At fault number)
read_stops [] line back r before start number fault faultless counted own =
    read_stops_here line back r before start number fault (read_same r before start faultless) (omega (arith, counted)) own
read_stops (x ∷ xs) line back r before start number fault faultless counted own =
    let next = held start (line_read r start x) (λ next. read_on next (start + 1) xs) before faultless in
    let c : number ≡ start + 1 + length xs = omega (arith, counted) in
    rw next.1 (read_stops xs line back next.0 before (start + 1) number fault next.2 c own)

-- The first of these instructions that has a fault, after those that are finished.
record JumpFrom (names : List (List ℕ × ℕ)) (unit : ℕ) (done : List Insn) (ps : List Placed) (e : AsmError) : Type 0 where
  front : List Placed
  jump : Placed
  back : List Placed
  parts : ps ≡ front ++ jump ∷ back
  before : List Insn
  resolved : insns_on names unit done front ≡ Ok before
  fault : AsmFault
  where_it_is : ℕ
  counted : where_it_is ≡ unit + sum_by placed_units front
  own : insn_of names where_it_is jump.source ≡ Err fault
  is : e ≡ At fault jump.line

jump_step : (names : List (List ℕ × ℕ)) (unit : ℕ) (done : List Insn) (p : Placed) (ps : List Placed) (e : AsmError) (o : Result Insn AsmFault) → insn_of names unit p.source ≡ o
    → ((i : Insn) → insns_on names (unit + placed_units p) (done ++ i ∷ []) ps ≡ Err e → JumpFrom names (unit + placed_units p) (done ++ i ∷ []) ps e)
    → (at_line p.line o >>= λ insn. insns_on names (unit + placed_units p) (done ++ insn ∷ []) ps) ≡ Err e → JumpFrom names unit done (p ∷ ps) e
jump_step names unit done p ps e (Err f) said ih h = record {
  front = [];
  jump = p;
  back = ps;
  parts = refl;
  before = done;
  resolved = refl;
  fault = f;
  where_it_is = unit;
  counted = omega arith;
  own = said;
  is = cc;
}
jump_step names unit done p ps e (Ok i) said ih h =
    let more = ih i h in
    record {
      front = p ∷ more.front;
      jump = more.jump;
      back = more.back;
      parts = ap (λ l. p ∷ l) more.parts;
      before = more.before;
      resolved = rw said more.resolved;
      fault = more.fault;
      where_it_is = more.where_it_is;
      counted = omega (arith, more.counted, sum_by-cons placed_units p more.front);
      own = more.own;
      is = more.is;
    }

jump_first : (ps : List Placed) (names : List (List ℕ × ℕ)) (unit : ℕ) (done : List Insn) (e : AsmError) → insns_on names unit done ps ≡ Err e → JumpFrom names unit done ps e
jump_first [] names unit done e h = absurd cc
jump_first (p ∷ ps) names unit done e h =
    jump_step names unit done p ps e (insn_of names unit p.source) refl (λ i. jump_first ps names (unit + placed_units p) (done ++ i ∷ []) e) h

jump_stops_here : (names : List (List ℕ × ℕ)) (p : Placed) (back : List Placed) (done : List Insn) (unit place : ℕ) (fault : AsmFault)
    → place ≡ unit → insn_of names place p.source ≡ Err fault → insns_on names unit done (p ∷ back) ≡ Err (At fault p.line)
jump_stops_here names p back done unit place fault here own =
    let P : ℕ → Type 0 = λ k. insn_of names k p.source ≡ Err fault in
    let e : insn_of names unit p.source ≡ Err fault = subst P here own in
    rw e refl

-- An instruction with a fault, after some without one.
jump_stops : (front : List Placed) (names : List (List ℕ × ℕ)) (p : Placed) (back : List Placed) (done before : List Insn) (unit place : ℕ) (fault : AsmFault)
    → insns_on names unit done front ≡ Ok before → place ≡ unit + sum_by placed_units front → insn_of names place p.source ≡ Err fault
    → insns_on names unit done (front ++ p ∷ back) ≡ Err (At fault p.line)
jump_stops [] names p back done before unit place fault resolved counted own = jump_stops_here names p back done unit place fault (omega (arith, counted)) own
jump_stops (q ∷ qs) names p back done before unit place fault resolved counted own =
    let next = held q.line (insn_of names unit q.source) (λ insn. insns_on names (unit + placed_units q) (done ++ insn ∷ []) qs) before resolved in
    let c : place ≡ unit + placed_units q + sum_by placed_units qs = omega (arith, counted, sum_by-cons placed_units q qs) in
    rw next.1 (jump_stops qs names p back (done ++ next.0 ∷ []) before (unit + placed_units q) place fault next.2 c own)

-- The first fault is that of a line, of the number of units, or of a jump.
by_line : (lines : List (List ℕ)) (fault : AsmFault) (number : ℕ) → FirstFrom nothing 1 lines (At fault number) → IsFirstLine lines fault number
by_line lines fault number f = record {
  front = f.front;
  line = f.line;
  back = f.back;
  parts = f.parts;
  counted = (let e : number ≡ f.number = cc (f.is) in omega (arith, e, f.counted));
  before = f.before;
  faultless = f.faultless;
  own = (let e : number ≡ f.number = cc (f.is) in let d : fault ≡ f.fault = cc (f.is) in rw (e, d) f.own);
}

by_jump : (lines : List (List ℕ)) (r : Read) (fault : AsmFault) (number : ℕ) → read_on nothing 1 lines ≡ Ok r → (0 < units_in r) × (units_in r ≤ 4096)
    → JumpFrom r.names 0 [] r.sources (At fault number) → IsFirstJump lines fault number
by_jump lines r fault number said units f = record {
  read = r;
  faultless = said;
  units = units;
  front = f.front;
  jump = f.jump;
  back = f.back;
  parts = f.parts;
  before = f.before;
  resolved = f.resolved;
  own = (let e : f.where_it_is ≡ sum_by placed_units f.front = omega (arith, f.counted) in let d : fault ≡ f.fault = cc (f.is) in rw (← e, d) f.own);
  is = cc (f.is);
}

few_or_many : (u : ℕ) → nat_lt 0 u && nat_le u 4096 ≡ false → (u ≡ 0) ⊎ (4096 < u)
few_or_many u h = grind (arith, nat_tests)

some_and_few : (u : ℕ) → nat_lt 0 u && nat_le u 4096 ≡ true → (0 < u) × (u ≤ 4096)
some_and_few u h = (grind (arith, nat_tests), grind (arith, nat_tests))

by_count : (lines : List (List ℕ)) (r : Read) (fault : AsmFault) (number : ℕ) (b : Bool) → read_on nothing 1 lines ≡ Ok r → nat_lt 0 (units_in r) && nat_le (units_in r) 4096 ≡ b
    → cond b (insns_on r.names 0 [] r.sources) (Err (At Count (max 1 (length lines)))) ≡ Err (At fault number) → IsMiscounted lines fault number ⊎ IsFirstJump lines fault number
by_count lines r fault number true said e h = inr (by_jump lines r fault number said (some_and_few (units_in r) e) (jump_first r.sources r.names 0 [] (At fault number) h))
by_count lines r fault number false said e h = inl (record { read = r; faultless = said; units = few_or_many (units_in r) e; is = (cc, cc) })

err_same : {A E : Type 0} (o : Result A E) (x y : E) → o ≡ Err x → o ≡ Err y → x ≡ y
err_same o x y d e = cc

by_read : (lines : List (List ℕ)) (fault : AsmFault) (number : ℕ) (o : Result Read AsmError) → read_on nothing 1 lines ≡ o → (o >>= λ r. program_in (length lines) r) ≡ Err (At fault number)
    → IsFirstLine lines fault number ⊎ (IsMiscounted lines fault number ⊎ IsFirstJump lines fault number)
by_read lines fault number (Err e) read h =
    let same : e ≡ At fault number = err_same (Err e) e (At fault number) refl h in
    let stopped : read_on nothing 1 lines ≡ Err (At fault number) = read ∙ ap (λ x. Err x) same in
    inl (by_line lines fault number (read_first lines nothing 1 (At fault number) stopped))
by_read lines fault number (Ok r) read h = inr (by_count lines r fault number (nat_lt 0 (units_in r) && nat_le (units_in r) 4096) read refl h)

pub said_only : (text : List ℕ) (fault : AsmFault) (number : ℕ) → said text ≡ Err (At fault number)
    → IsFirstLine (lines_of text) fault number ⊎ (IsMiscounted (lines_of text) fault number ⊎ IsFirstJump (lines_of text) fault number)
unfolding said
said_only text fault number h = by_read (lines_of text) fault number (read_on nothing 1 (lines_of text)) refl h

-- Each of these faults is reported.
pub line_said : (text : List ℕ) (fault : AsmFault) (number : ℕ) → IsFirstLine (lines_of text) fault number → said text ≡ Err (At fault number)
unfolding said
line_said text fault number w =
    let e : read_on nothing 1 (lines_of text) ≡ Err (At fault number) =
    ap (read_on nothing 1) w.parts ∙ read_stops w.front w.line w.back nothing w.before 1 number fault w.faultless (omega (arith, w.counted)) w.own in
    rw e refl

miscounted : (u : ℕ) → (u ≡ 0) ⊎ (4096 < u) → nat_lt 0 u && nat_le u 4096 ≡ false
miscounted u (inl e) = rw e refl
miscounted u (inr lt) = let high : nat_le u 4096 ≡ false = grind (arith, nat_tests) in let low : nat_lt 0 u ≡ true = grind (arith, nat_tests) in rw (low, high) refl

pub count_said : (text : List ℕ) (fault : AsmFault) (number : ℕ) → IsMiscounted (lines_of text) fault number → said text ≡ Err (At fault number)
unfolding said
count_said text fault number w = rw (w.faultless, miscounted (units_in w.read) w.units, w.is.0, w.is.1) refl

pub jump_said : (text : List ℕ) (fault : AsmFault) (number : ℕ) → IsFirstJump (lines_of text) fault number → said text ≡ Err (At fault number)
unfolding said
jump_said text fault number w =
    let low : nat_lt 0 (units_in w.read) ≡ true = (let lt = w.units.0 in grind (arith, nat_tests)) in
    let high : nat_le (units_in w.read) 4096 ≡ true = (let le = w.units.1 in grind (arith, nat_tests)) in
    let e : insns_on w.read.names 0 [] w.read.sources ≡ Err (At fault w.jump.line) =
    ap (insns_on w.read.names 0 []) w.parts ∙ jump_stops w.front w.read.names w.jump w.back [] w.before 0 (sum_by placed_units w.front) fault w.resolved (omega arith) w.own in
    rw (w.faultless, low, high, e, w.is) refl
