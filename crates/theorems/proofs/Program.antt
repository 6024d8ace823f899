-- Demands 2 and 3 of the program: of the list as the entries leave it in lent memory, and of the entry that reads it. Assumes nothing.
use Prim.Native.Nat.{ℕ}
use native.Mathlib.Omega.{arith}
use mathlib.Core.Path.{◌≡◌, refl, ap, sym, ◌∙◌}
use mathlib.Core.Bool.{Bool, true, false, cond}
use mathlib.Core.List.{List}
use lib.Dec.{leb}
use lib.ListN.{length, take, drop}
use lib.Seq.{take-append_seam}
use Rattle.tables.specs.Tables.{Tables}
use Rattle.tables.specs.declared.Place.{Place}
use Rattle.tables.specs.Answer.{Answer}
use Rattle.std.specs.Prelude.{Ok, Err}
use Rattle.tables.specs.declared.Refusal.TheVariants.{TooShort}
use Rattle.tables.specs.declared.Target.{Target}
use Rattle.tables.proofs.Each.{both_accept}
use Rattle.ranges.specs.Range.{table_ranges}
use Rattle.listed.specs.Twice.{listed_twice}
use Rattle.table_checks.specs.Checks.{target_check, after_ranges, table_checks, sheet_checks}
use Rattle.table_checks.proofs.Laws.{tables_pass, passes_3}
use Rattle.nesting.specs.Live.{Nesting, nesting_of}
use Rattle.nesting.specs.Numbering.{Listing, fine, refused, numbering}
use Rattle.nesting.specs.ReadBack.{read_back, operand_places}
use Rattle.numbering.specs.Alone.{outcome, sizes, over, handed, after_checks, numbering_alone}
use Rattle.full_check.specs.Full.{parts, refusals, full_check}
use Rattle.nesting_check.specs.Checks.{nesting_ranges}
use Rattle.read_back.specs.Alone.{spanned, written, after_checks as after_read, read_back_alone}
use Rattle.read_back.proofs.Laws.{reads_back}
use Rattle.theorems.proofs.Passed.{single}
use Rattle.theorems.proofs.Demands.{written_numbers_read_back, same_list_same_places}
use Rattle.theorems.proofs.Seen.{checks_are}

-- tables that pass 1 to 4, and the list of their numbers
pub record Numbers (sheet : List ℕ) (x : Tables) (zs : List ℕ) : Type 0 where
  pub checks : table_checks x ≡ Ok tt
  pub list : numbering sheet x ≡ fine zs

-- ---- an accepted entry has written the list

-- where both lists had room
room : (p q : Bool) (zs ns numbers lengths : List ℕ) (c : ℕ)
    → let w = cond p (cond q (outcome (Ok (length zs)) (over zs numbers) (over ns lengths)) (outcome (Err (TooShort (length ns))) numbers lengths)) (outcome (Err (TooShort (length zs))) numbers lengths) in
    w.answer ≡ Ok c → zs ≡ take c w.numbers
room true true zs ns numbers lengths c e =
    let q : length zs ≡ c = cc in
    rw (← q) (sym (take-append_seam zs (drop (length zs) numbers)))
room true false zs ns numbers lengths c e = absurd (let z : ◌≡◌ {A = ℕ} 0 1 = cc in omega arith)
room false q zs ns numbers lengths c e = absurd (let z : ◌≡◌ {A = ℕ} 0 1 = cc in omega arith)

-- where the checks before it passed and the numbering is a list
wrote : (a : Answer) (l : Listing ℕ) (ns numbers lengths : List ℕ) (c : ℕ)
    → let w = after_checks a (handed l ns numbers lengths) numbers lengths in
    w.answer ≡ Ok c → (a ≡ Ok tt) × (l ≡ fine (take c w.numbers))
wrote (Ok _) (fine zs) ns numbers lengths c e =
    (refl, ap fine (room (leb (length zs) (length numbers)) (leb (length ns) (length lengths)) zs ns numbers lengths c e))
wrote (Ok _) (refused r) ns numbers lengths c e = absurd (let z : ◌≡◌ {A = ℕ} 0 1 = cc in omega arith)
wrote (Err r) l ns numbers lengths c e = absurd (let z : ◌≡◌ {A = ℕ} 0 1 = cc in omega arith)

-- numbering called alone
pub numbering_wrote : (sheet : List ℕ) (x : Tables) (numbers lengths : List ℕ) (c : ℕ)
    → (numbering_alone sheet x numbers lengths).answer ≡ Ok c
    → Numbers sheet x (take c (numbering_alone sheet x numbers lengths).numbers)
unfolding numbering_alone
numbering_wrote sheet x numbers lengths c e =
    let q = wrote (sheet_checks sheet x) (numbering sheet x) (sizes x) numbers lengths c e in
    record { checks = tables_pass sheet x q.0; list = q.1 }

-- the check that runs all
pub check_wrote : (g : Target) (sheet : List ℕ) (x : Tables) (numbers lengths : List ℕ) (c : ℕ)
    → (full_check g sheet x numbers lengths).answer ≡ Ok c
    → Numbers sheet x (take c (full_check g sheet x numbers lengths).numbers)
unfolding full_check refusals
check_wrote g sheet x numbers lengths c e =
    let q = wrote (refusals g sheet x) (numbering sheet x) (sizes x) numbers lengths c e in
    let r = both_accept (target_check g) _ q.0 in
    record { checks = tables_pass sheet x (both_accept (sheet_checks sheet x) (parts g sheet x) r.1).0; list = q.1 }

-- ---- demand 2

-- "Written numbers read back to the defining places."
pub own_list_reads_back : (sheet : List ℕ) (x : Tables) (numbers lengths held : List ℕ) (c : ℕ)
    → (numbering_alone sheet x numbers lengths).answer ≡ Ok c
    → read_back_alone x (take c (numbering_alone sheet x numbers lengths).numbers) held ≡ written (fine (operand_places x)) held
unfolding table_checks
own_list_reads_back sheet x numbers lengths held c e =
    let n = numbering_wrote sheet x numbers lengths c e in
    let p = both_accept (table_ranges x) (after_ranges x) n.checks in
    let q = both_accept (listed_twice x) _ p.1 in
    reads_back sheet x p.0 q.0 (passes_3 x n.checks) (single x n.checks) (take c (numbering_alone sheet x numbers lengths).numbers) held n.list

-- ---- demand 3

-- "Take two sets of tables with the same nesting and the same counts .. If they give the same number list, each operand has the same
-- defining place in both."
same_numbers : (s s' : List ℕ) (x y : Tables) (zs zs' : List ℕ) → nesting_of x ≡ nesting_of y → Numbers s x zs → Numbers s' y zs' → zs ≡ zs'
    → operand_places x ≡ operand_places y
same_numbers s s' x y zs zs' n a b e = same_list_same_places s s' x y a.checks b.checks n zs a.list (b.list ∙ ap fine (sym e))

-- of the list as numbering writes it to lent memory; it asks 1 to 4 and all of numbering itself, so nothing else is to be assumed
pub written_list_same_places : (s s' : List ℕ) (x y : Tables) (numbers lengths numbers' lengths' : List ℕ) (c c' : ℕ)
    → nesting_of x ≡ nesting_of y
    → (numbering_alone s x numbers lengths).answer ≡ Ok c → (numbering_alone s' y numbers' lengths').answer ≡ Ok c'
    → take c (numbering_alone s x numbers lengths).numbers ≡ take c' (numbering_alone s' y numbers' lengths').numbers
    → operand_places x ≡ operand_places y
written_list_same_places s s' x y numbers lengths numbers' lengths' c c' n e e' q =
    same_numbers s s' x y (take c (numbering_alone s x numbers lengths).numbers) (take c' (numbering_alone s' y numbers' lengths').numbers) n
    (numbering_wrote s x numbers lengths c e) (numbering_wrote s' y numbers' lengths' c' e') q

-- and as the check that runs all writes it
pub checked_list_same_places : (g g' : Target) (s s' : List ℕ) (x y : Tables) (numbers lengths numbers' lengths' : List ℕ) (c c' : ℕ)
    → nesting_of x ≡ nesting_of y
    → (full_check g s x numbers lengths).answer ≡ Ok c → (full_check g' s' y numbers' lengths').answer ≡ Ok c'
    → take c (full_check g s x numbers lengths).numbers ≡ take c' (full_check g' s' y numbers' lengths').numbers
    → operand_places x ≡ operand_places y
checked_list_same_places g g' s s' x y numbers lengths numbers' lengths' c c' n e e' q =
    same_numbers s s' x y (take c (full_check g s x numbers lengths).numbers) (take c' (full_check g' s' y numbers' lengths').numbers) n
    (check_wrote g s x numbers lengths c e) (check_wrote g' s' y numbers' lengths' c' e') q

-- ---- the reader

-- "Whoever reads a list sees only nesting, counts and numbers, never value ids, and finds exactly that place for each operand."
-- The entry is lent y: operations, blocks, regions, functions and the lists, and no types, values and attributes. The premise is that what
-- it sees of y, row by row, is x's nesting and counts. A row past its count reads as empty on both sides, so the tables' own counts are
-- free, and so is where the lists stand and what stands in those of result types, operands and arguments. All rows, not those alone that
-- the entry walks reach: the nesting of the demand is the lists, and 2 looks at those that nothing reaches too.
-- Then y is refused by code 1 of its own rows or not at all: the places are given, or 13 where `held` is too short for them.
reads : (sheet : List ℕ) (x y : Tables) (zs held : List ℕ) → Numbers sheet x zs → spanned y ≡ nesting_of x
    → read_back_alone y zs held ≡ after_read (nesting_ranges y) (written (fine (operand_places x)) held) held
unfolding read_back_alone
reads sheet x y zs held n same =
    ap (λ (a : Answer). after_read a (written (read_back (spanned y) zs) held) held) (checks_are x y n.checks same)
    ∙ ap (λ (m : Nesting). after_read (nesting_ranges y) (written (read_back m zs) held) held) same
    ∙ ap (λ (l : Listing Place). after_read (nesting_ranges y) (written l held) held) (written_numbers_read_back sheet x n.checks zs n.list)

-- of the list as numbering wrote it to lent memory
pub reading_finds_the_places : (sheet : List ℕ) (x y : Tables) (numbers lengths held : List ℕ) (c : ℕ)
    → (numbering_alone sheet x numbers lengths).answer ≡ Ok c → spanned y ≡ nesting_of x
    → read_back_alone y (take c (numbering_alone sheet x numbers lengths).numbers) held
    ≡ after_read (nesting_ranges y) (written (fine (operand_places x)) held) held
reading_finds_the_places sheet x y numbers lengths held c e =
    reads sheet x y (take c (numbering_alone sheet x numbers lengths).numbers) held (numbering_wrote sheet x numbers lengths c e)

-- and as the check that runs all wrote it
pub reading_finds_the_checked : (g : Target) (sheet : List ℕ) (x y : Tables) (numbers lengths held : List ℕ) (c : ℕ)
    → (full_check g sheet x numbers lengths).answer ≡ Ok c → spanned y ≡ nesting_of x
    → read_back_alone y (take c (full_check g sheet x numbers lengths).numbers) held
    ≡ after_read (nesting_ranges y) (written (fine (operand_places x)) held) held
reading_finds_the_checked g sheet x y numbers lengths held c e =
    reads sheet x y (take c (full_check g sheet x numbers lengths).numbers) held (check_wrote g sheet x numbers lengths c e)
