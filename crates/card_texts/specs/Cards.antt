-- The paper's "Bench cards" 1 to 9 as texts: of each the sheet, the module, and what the paper says of them.
use Rattle.std.specs.Prelude.{ℕ, List, [], ◌∷◌, ◌++◌, length, replicate, set, take, drop, Ok, Err}
use Prim.Native.String.{String}
use Rattle.cells.specs.Lists.{flat}
use Rattle.names.specs.Names.{bytes}
use Rattle.house.specs.House.{no_counts}
use Rattle.tables.specs.Answer.{numbers_of, three}
use Rattle.tables.specs.Tables.{Tables, lent}
use Rattle.tables.specs.declared.Numbers.{Numbers}
use Rattle.numbering.specs.Alone.{Numbered, Outcome, over}
use Rattle.text_check.specs.Texts.{texts_check}

-- ---- what is seen: `ok` with how many numbers, or code, id and detail; and what the lent lists hold at exit

pub data Answered : Type 0 where
  accepted : ℕ → Answered
  refused : Numbers → Answered

pub record Seen : Type 0 where
  pub answer : Answered
  pub numbers : List ℕ
  pub lengths : List ℕ

abbrev pub seen : Answered → List ℕ → List ℕ → Seen
seen answer numbers lengths = record { answer = answer; numbers = numbers; lengths = lengths }

abbrev pub answered : Numbered → Answered
answered (Ok count) = accepted count
answered (Err why) = refused (numbers_of why)

abbrev pub seen_of : Outcome → Seen
seen_of w = seen (answered w.answer) w.numbers w.lengths

-- the lent lists before the call: longer than what is written, and full of other numbers
abbrev pub numbers : List ℕ
numbers = replicate 7 9

abbrev pub lengths : List ℕ
lengths = replicate 2 8

-- `ok`, with the numbers of each function
abbrev pub ok : List (List ℕ) → Seen
ok ns =
    let zs = flat (λ (n : List ℕ). n) ns in
    seen (accepted (length zs)) (over zs numbers) (over (flat (λ (n : List ℕ). length n ∷ []) ns) lengths)

-- `no`, with code, id and detail: nothing is written
abbrev pub no : ℕ → ℕ → ℕ → Seen
no code id detail = seen (refused (three code id detail)) numbers lengths

-- ---- a card: the sheet's lines, the module's, and what is to be seen

pub record Card : Type 0 where
  pub sheet : List String
  pub text : List String
  pub says : Seen

abbrev pub card : List String → List String → Seen → Card
card sheet text says = record { sheet = sheet; text = text; says = says }

-- "Lines end with LF"
abbrev pub in_bytes : List String → List ℕ
in_bytes ls = flat (λ (l : String). bytes l ++ (10 ∷ [])) ls

-- tables of full size with nothing in them
unfoldable pub full : Tables
full =
    lent (replicate 16384 0) (replicate 16384 0) (replicate 32768 0) (replicate 32768 0) (replicate 2048 0) (replicate 1024 0) (replicate 64 0)
    (replicate 8192 0) no_counts

-- what the check over texts answers, lent a sheet with numbers that are not its own
unfoldable pub said : Card → Seen
said c = seen_of (texts_check (in_bytes c.sheet) (in_bytes c.text) full (replicate 320 7) numbers lengths).said

-- ---- the modules

-- "with the sheet `sheet|1`"
abbrev pub plain : List String
plain = "sheet\t1" ∷ []

-- "Cards 7, 11 and 12 use widths I8 1 and I64 8": kinds 2 and 5
abbrev pub widths : List String
widths = "sheet\t1" ∷ "w\t2\t1" ∷ "w\t5\t8" ∷ []

-- "Case M whole": its lines, counted from 0 below
abbrev pub M : List String
M =
    "tile\t1\t4\t100" ∷  -- 0
    "T\t1\t4\t0\t0\t-1\t" ∷  -- 1
    "V\t0\t\t" ∷  -- 2: value 0
    "V\t0\t\t" ∷  -- 3
    "V\t0\t1\t0" ∷  -- 4
    "V\t0\t3\t0" ∷  -- 5: value 3
    "O\t22\t\t\t0" ∷  -- 6: operation 0
    "O\t3\t0\t0,1\t" ∷  -- 7
    "O\t38\t\t2\t1" ∷  -- 8
    "O\t3\t0\t2,0\t" ∷  -- 9
    "O\t74\t\t2\t" ∷  -- 10: operation 4
    "B\t0,1\t1,2,4" ∷  -- 11
    "B\t\t3" ∷  -- 12
    "R\t0" ∷  -- 13
    "R\t1" ∷  -- 14
    "F\t0" ∷  -- 15
    []

-- operation 1 is Assume (opcode 6) on a single number of a kind, with one attribute
abbrev pub assuming : String → String → List String
assuming type attribute =
    "tile\t1\t4\t100" ∷ type ∷ "V\t0\t\t" ∷ "V\t0\t1\t0" ∷ "O\t22\t\t\t0" ∷ "O\t6\t0\t0\t" ∷ attribute ∷ "B\t0\t1" ∷ "R\t0" ∷ "F\t0" ∷ []

abbrev pub on_i1 : String → List String
on_i1 attribute = assuming "T\t1\t0\t0\t0\t-1\t" attribute

abbrev pub on_i64 : String → List String
on_i64 attribute = assuming "T\t1\t5\t0\t0\t-1\t" attribute

-- ---- the cards

unfoldable pub cards : List Card
cards =
    -- "1. M."
    card plain M (ok ((0 ∷ 1 ∷ 2 ∷ 2 ∷ 0 ∷ 2 ∷ []) ∷ [])) ∷
    -- "2. Operation 4 uses value 3: 5, 4, 0."
    card plain (set M 10 "O\t74\t\t3\t") (no 5 4 0) ∷
    -- "3. Operation 1 uses its own result first: 5, 1, 0."
    card plain (set M 7 "O\t3\t0\t2,1\t") (no 5 1 0) ∷
    -- "4. Operation 2 declares a result, value 4 claims it, operation 3 uses 4 and 0: accepted, list 0,1,2,3,0,2."
    card plain
    (take 6 M ++ ("V\t0\t2\t0" ∷ drop 6 (set (set M 8 "O\t38\t0\t2\t1") 9 "O\t3\t0\t4,0\t")))
    (ok ((0 ∷ 1 ∷ 2 ∷ 3 ∷ 0 ∷ 2 ∷ []) ∷ [])) ∷
    -- "5. No functions: accepted, no `n` line."
    card plain (take 15 M) (ok []) ∷
    -- "6. Value 0 listed twice: 4, 0, 0."
    card plain (set M 11 "B\t0,1,0\t1,2,4") (no 4 0 0) ∷
    -- "7. bounded on I1: -1 to 0 passes, 0 to 1 is reason 8; I64 takes its full range."
    card widths (on_i1 "A\tbounded\tr\t-1,0") (ok ((0 ∷ []) ∷ [])) ∷
    card widths (on_i1 "A\tbounded\tr\t0,1") (no 11 1 8) ∷
    card widths (on_i64 "A\tbounded\tr\t-9223372036854775808,9223372036854775807") (ok ((0 ∷ []) ∷ [])) ∷
    -- "8. div_by 2^62 passes; 0, 2^63, or every without along is reason 1."
    card plain (on_i64 "A\tdiv_by\td\t4611686018427387904,,") (ok ((0 ∷ []) ∷ [])) ∷
    card plain (on_i64 "A\tdiv_by\td\t0,,") (no 11 1 1) ∷
    card plain (on_i64 "A\tdiv_by\td\t9223372036854775808,,") (no 11 1 1) ∷
    card plain (on_i64 "A\tdiv_by\td\t8,1,") (no 11 1 1) ∷
    -- "9. sm_90 under 13.2: 9, 0, 32; under 13.3 passes that step."
    card plain (set M 0 "tile\t1\t2\t90") (no 9 0 32) ∷
    card plain (set M 0 "tile\t1\t3\t90") (ok ((0 ∷ 1 ∷ 2 ∷ 2 ∷ 0 ∷ 2 ∷ []) ∷ [])) ∷
    []

-- "The program reads the sheet first; its 15 adds 100 to the field": M with an empty sheet and with one of another form; then a module of
-- another form
unfoldable pub unread : List Card
unread =
    card [] M (no 15 1 100) ∷
    card ("sheet\t2" ∷ []) M (no 15 1 102) ∷
    card plain ("tile\t2\t4\t100" ∷ []) (no 15 1 2) ∷
    []
