-- What a text of accesses lists. The fault is found first, and the accesses are collected separately.
use Rattle.std.proofs.Common.{◌≡◌, ◌∙◌, ◌+◌, ℕ, suc, List, [], ◌∷◌, ◌++◌, length, length-append, Option, Some, None, Result, Ok, Err, Bool, true, false, cond, nat_lt, refl, sym, ap, subst, arith}
use Rattle.std.proofs.lemmas.Bool.{ltb-false}
use Rattle.std.specs.Prelude.{◌≤◌}
use Rattle.std.specs.Result.{result_err}
use Rattle.text.specs.Parts.{pieces}
use Rattle.text.specs.Number.{decimal_of}
use Rattle.text.specs.Stop.{space}
use Rattle.campaign_schedules.specs.Accesses.{accesses_told, fault_at, general_of, row_fault, row_told, rows_told, slash, with_general, with_row}
use Rattle.campaign_schedules.specs.declared.fault.AccessFault.{AccessFault}
use Rattle.campaign_schedules.specs.declared.fault.AccessFault.TheVariants.{Text}

one_more : (before : List ℕ) (g : ℕ) → length (before ++ g ∷ []) ≡ suc (length before)
one_more before g = let l = length-append before (g ∷ []) in omega arith

row_err : (round : ℕ) (before : List ℕ) (parts : List (List ℕ)) → result_err (row_told round before parts) ≡ row_fault round (suc (length before)) parts
row_err round before [] = refl
row_err round before ([] ∷ parts) = row_err round before parts
row_err round before ((c ∷ cs) ∷ parts) = go (general_of (c ∷ cs)) (λ g. row_err round (before ++ g ∷ []) parts)
  where
    go : (o : Option ℕ) → ((g : ℕ) → result_err (row_told round (before ++ g ∷ []) parts) ≡ row_fault round (suc (length (before ++ g ∷ []))) parts)
        → result_err (with_general round before o (λ general. row_told round (before ++ general ∷ []) parts)) ≡ fault_at round (suc (length before)) o (row_fault round (suc (suc (length before))) parts)
    go None later = refl
    go (Some g) later = later g ∙ ap (λ (n : ℕ). row_fault round (suc n) parts) (one_more before g)

-- Returns the first fault of the rounds from this one on.
abbrev pub first_of : Option AccessFault → Option AccessFault → Option AccessFault
first_of None later = later
first_of (Some fault) later = Some fault

abbrev pub fault_in : ℕ → List (List ℕ) → Option AccessFault
fault_in round [] = None
fault_in round (part ∷ parts) =
    first_of (row_fault round 1 (pieces space part)) (cond (nat_lt 5 round) (Some (Text round 1)) (fault_in (suc round) parts))

rows_err : (before : List (List ℕ)) (round : ℕ) (parts : List (List ℕ)) → result_err (rows_told before round parts) ≡ fault_in round parts
rows_err before round [] = refl
rows_err before round (part ∷ parts) = go (row_told round [] (pieces space part)) (row_err round [] (pieces space part)) (λ row. rows_err (before ++ row ∷ []) (suc round) parts)
  where
    by : (row : List ℕ) (b : Bool) → result_err (rows_told (before ++ row ∷ []) (suc round) parts) ≡ fault_in (suc round) parts
        → result_err (cond b (Err (Text round 1)) (rows_told (before ++ row ∷ []) (suc round) parts)) ≡ cond b (Some (Text round 1)) (fault_in (suc round) parts)
    by row true later = refl
    by row false later = later

    go : (r : Result (List ℕ) AccessFault) → result_err r ≡ row_fault round 1 (pieces space part) → ((row : List ℕ) → result_err (rows_told (before ++ row ∷ []) (suc round) parts) ≡ fault_in (suc round) parts)
        → result_err (with_row round r (λ row. rows_told (before ++ row ∷ []) (suc round) parts))
        ≡ first_of (row_fault round 1 (pieces space part)) (cond (nat_lt 5 round) (Some (Text round 1)) (fault_in (suc round) parts))
    go (Ok row) e later = by row (nat_lt 5 round) (later row) ∙ ap (λ (o : Option AccessFault). first_of o (cond (nat_lt 5 round) (Some (Text round 1)) (fault_in (suc round) parts))) e
    go (Err fault) e later = ap (λ (o : Option AccessFault). first_of o (cond (nat_lt 5 round) (Some (Text round 1)) (fault_in (suc round) parts))) e

pub told_fault : (text : List ℕ) → fault_in 1 (pieces slash text) ≡ result_err (accesses_told text)
unfolding accesses_told
told_fault text = sym (rows_err [] 1 (pieces slash text))

-- ---- the accesses of a text without a fault

no_number : general_of [] ≡ None
unfolding general_of decimal_of
no_number = refl

pub taken_in : (round : ℕ) (before part told : List ℕ) (parts : List (List ℕ)) (g : ℕ) → Some g ≡ general_of part → row_told round before (part ∷ parts) ≡ Ok told → row_told round (before ++ g ∷ []) parts ≡ Ok told
taken_in round before [] told parts g is h = (let c : Some g ≡ None = is ∙ no_number in cc)
taken_in round before (c ∷ cs) told parts g is h = subst (λ (o : Option ℕ). with_general round before o (λ general. row_told round (before ++ general ∷ []) parts) ≡ Ok told) (sym is) h

pub passed_by : (round : ℕ) (before part told : List ℕ) (parts : List (List ℕ)) → None ≡ general_of part → row_told round before (part ∷ parts) ≡ Ok told → row_told round before parts ≡ Ok told
passed_by round before [] told parts is h = h
passed_by round before (c ∷ cs) told parts is h =
    let e : Err (Text round (suc (length before))) ≡ Ok told = subst (λ (o : Option ℕ). with_general round before o (λ general. row_told round (before ++ general ∷ []) parts) ≡ Ok told) (sym is) h in
    cc

-- Proves that a round's generals are those that were collected.
pub row_taken : (before : List (List ℕ)) (round : ℕ) (part row : List ℕ) (parts told : List (List ℕ)) → ((r : ℕ) (own : List ℕ) → row_told r [] (pieces space part) ≡ Ok own → own ≡ row)
    → rows_told before round (part ∷ parts) ≡ Ok told → rows_told (before ++ row ∷ []) (suc round) parts ≡ Ok told
row_taken before round part row parts told read h = go (row_told round [] (pieces space part)) (read round) h
  where
    by : (own : List ℕ) (b : Bool) → own ≡ row → cond b (Err (Text round 1)) (rows_told (before ++ own ∷ []) (suc round) parts) ≡ Ok told → rows_told (before ++ row ∷ []) (suc round) parts ≡ Ok told
    by own true is e = cc
    by own false is e = subst (λ (l : List ℕ). rows_told (before ++ l ∷ []) (suc round) parts ≡ Ok told) is e

    go : (r : Result (List ℕ) AccessFault) → ((own : List ℕ) → r ≡ Ok own → own ≡ row) → with_row round r (λ own. rows_told (before ++ own ∷ []) (suc round) parts) ≡ Ok told → rows_told (before ++ row ∷ []) (suc round) parts ≡ Ok told
    go (Ok own) read e = by own (nat_lt 5 round) (read own refl) e
    go (Err fault) read e = cc

-- Proves that there are at most five rounds.
few_rounds : (before : List (List ℕ)) (round : ℕ) (parts told : List (List ℕ)) → length before + 1 ≡ round → length before ≤ 5 → rows_told before round parts ≡ Ok told → length told ≤ 5
few_rounds before round [] told count few h = (let same : before ≡ told = cc in subst (λ (l : List (List ℕ)). length l ≤ 5) same few)
few_rounds before round (part ∷ parts) told count few h =
    go (row_told round [] (pieces space part)) (λ row less. few_rounds (before ++ row ∷ []) (suc round) parts told (let l = length-append before (row ∷ []) in omega arith) (let l = length-append before (row ∷ []) in omega arith)) h
  where
    by : (row : List ℕ) (b : Bool) → nat_lt 5 round ≡ b → (round ≤ 5 → rows_told (before ++ row ∷ []) (suc round) parts ≡ Ok told → length told ≤ 5)
        → cond b (Err (Text round 1)) (rows_told (before ++ row ∷ []) (suc round) parts) ≡ Ok told → length told ≤ 5
    by row true e later h = cc
    by row false e later h = later (ltb-false 5 round e) h

    go : (r : Result (List ℕ) AccessFault) → ((row : List ℕ) → round ≤ 5 → rows_told (before ++ row ∷ []) (suc round) parts ≡ Ok told → length told ≤ 5)
        → with_row round r (λ row. rows_told (before ++ row ∷ []) (suc round) parts) ≡ Ok told → length told ≤ 5
    go (Ok row) later h = by row (nat_lt 5 round) refl (later row) h
    go (Err fault) later h = cc

-- Proves that a text without a fault lists what was collected from it.
pub listed : (text : List ℕ) (rows : List (List ℕ)) → None ≡ result_err (accesses_told text) → ((told : List (List ℕ)) → accesses_told text ≡ Ok told → told ≡ rows) → (accesses_told text ≡ Ok rows) × (length rows ≤ 5)
unfolding accesses_told
listed text rows none read = go (rows_told [] 1 (pieces slash text)) none read (λ told h. few_rounds [] 1 (pieces slash text) told refl (omega arith) h)
  where
    go : (r : Result (List (List ℕ)) AccessFault) → None ≡ result_err r → ((told : List (List ℕ)) → r ≡ Ok told → told ≡ rows) → ((told : List (List ℕ)) → r ≡ Ok told → length told ≤ 5) → (r ≡ Ok rows) × (length rows ≤ 5)
    go (Ok told) none read few = (ap Ok (read told refl), subst (λ (l : List (List ℕ)). length l ≤ 5) (read told refl) (few told refl))
    go (Err fault) none read few = (let c : None ≡ Some fault = none in cc)

-- Proves that the fault that was found is the fault of the text.
pub faulty : (text : List ℕ) (fault : AccessFault) → Some fault ≡ result_err (accesses_told text) → accesses_told text ≡ Err fault
faulty text fault = go (accesses_told text)
  where
    go : (r : Result (List (List ℕ)) AccessFault) → Some fault ≡ result_err r → r ≡ Err fault
    go (Ok told) e = (let c : Some fault ≡ None = e in cc)
    go (Err other) e = (let same : fault ≡ other = cc in ap Err (sym same))
