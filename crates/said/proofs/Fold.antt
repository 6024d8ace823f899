-- The lines one after another: of every state that is not refused, the tables hold what the lines before it say. Assumes nothing.
use Prim.Native.Nat.{ℕ, suc, ◌+◌, ◌<◌, min}
use mathlib.Core.Bool.{false}
use mathlib.Core.List.{List, [], ◌∷◌, ◌++◌, append_assoc, append-nil}
use mathlib.Core.Path.{◌≡◌, refl, sym, ◌∙◌, ap, subst, fun_ext}
use native.Mathlib.Omega.{arith}
use lib.ListN.{length, length-append}
use Rattle.fields.specs.Cut.{split, until}
use Rattle.fields.proofs.Parts.{split_cons}
use Rattle.tables.specs.Tables.{Tables}
use Rattle.tables.specs.Answer.{Answer}
use Rattle.std.specs.Prelude.{Ok, Err}
use Rattle.stores.proofs.Stores.{impossible}
use Rattle.house.specs.State.{State}
use Rattle.house.specs.House.{Tag, header, type, value, operation, attribute, block, region, function, line_of}
use Rattle.names.specs.Names.{bytes, equal}
use Rattle.module_text.specs.Whole.{room_in, fresh, started, start_of, last_of, lines_of, house}
use Rattle.reading.proofs.Held.{Held}
use Rattle.reading.proofs.Cases.{Cases, line_cases, last_cases}
use Rattle.reading.proofs.Fold.{Kept, one_line, start_kept}
use Rattle.said.specs.Said.{with_tag, cut_lines, attributes_after}
use Rattle.said.proofs.Tagged.{tag_text, tag_is, Is, is_of, kind_added, AllAttributes, after_operation, after_other}
use Rattle.said.proofs.Steps.{Says, with, header_says, type_says, value_says, operation_says, attribute_says, block_says, region_says, function_says}

-- the lines seen end with an `O` line and its `A` lines: any more of these are its own
pub record Open (seen : List (List (List ℕ))) : Type 0 where
  pub front : List (List (List (List ℕ)))
  pub own : List (List (List ℕ))
  pub grows : (more : List (List (List ℕ))) → AllAttributes more → attributes_after (seen ++ more) ≡ front ++ (own ++ more) ∷ []

-- the header and the entries
abbrev pub entries_of : State → ℕ
entries_of s =
    let n = s.tables.counts in
    min s.phase 1 + n.types + n.values + n.operations + n.attributes + n.blocks + n.regions + n.functions

pub record Seen (seen : List (List (List ℕ))) (s : State) : Type 0 where
  pub said : Says (λ g. with_tag (tag_text g) seen) (attributes_after seen) s
  pub ending : s.phase ≡ 3 → Open seen
  pub all : length seen ≡ entries_of s

-- a state that is not refused
abbrev Told : List (List (List ℕ)) → State → Type 0
Told seen s = s.answer ≡ Ok tt → Seen seen s

-- ---- one line more

module _ (seen : List (List (List ℕ))) (fs : List (List ℕ)) where
  -- the lines of each kind, by one of kind g
  kinds_with : (g : Tag) → Is g fs → ◌≡◌ {A = Tag → List (List (List ℕ))} (with (λ g'. with_tag (tag_text g') seen) g fs) (λ g'. with_tag (tag_text g') (seen ++ fs ∷ []))
  kinds_with g e = fun_ext (λ g'. sym (kind_added g g' fs seen e))

  told : (g : Tag) → Is g fs → (gs : List (List (List (List ℕ)))) → gs ≡ attributes_after (seen ++ fs ∷ []) → (s : State)
      → Says (with (λ g'. with_tag (tag_text g') seen) g fs) gs s → Says (λ g'. with_tag (tag_text g') (seen ++ fs ∷ [])) (attributes_after (seen ++ fs ∷ [])) s
  told g e gs q s y =
      subst (λ (z : List (List (List (List ℕ)))). Says (λ g'. with_tag (tag_text g') (seen ++ fs ∷ [])) z s) q
      (subst (λ (k : Tag → List (List (List ℕ))). Says k gs s) (kinds_with g e) y)

  one_more : {n : ℕ} → suc (length seen) ≡ n → length (seen ++ fs ∷ []) ≡ n
  one_more e = length-append seen (fs ∷ []) ∙ omega arith

  -- neither `O` nor `A`
  other : (g : Tag) → Is g fs → equal (tag_text g) (bytes "O") ≡ false → equal (tag_text g) (bytes "A") ≡ false → (s : State) → (s.phase ≡ 3 → ⊥) → suc (length seen) ≡ entries_of s
      → Says (with (λ g'. with_tag (tag_text g') seen) g fs) (attributes_after seen) s → Seen (seen ++ fs ∷ []) s
  other g e o a s p c y = record {
    said = told g e (attributes_after seen) (sym (after_other seen fs (is_of g operation fs e ∙ o) (is_of g attribute fs e ∙ a))) s y;
    ending = λ q. absurd (p q);
    all = one_more c;
  }

  operation_open : Is operation fs → Open (seen ++ fs ∷ [])
  operation_open e = record {
    front = attributes_after seen;
    own = [];
    grows = λ more h. ap attributes_after (append_assoc seen (fs ∷ []) more) ∙ after_operation seen more fs e h;
  }

  attribute_open : Is attribute fs → Open seen → Open (seen ++ fs ∷ [])
  attribute_open e o = record {
    front = o.front;
    own = o.own ++ fs ∷ [];
    grows = λ more h.
        ap attributes_after (append_assoc seen (fs ∷ []) more) ∙ o.grows (fs ∷ more) (e, h)
        ∙ ap (λ (g : List (List (List ℕ))). o.front ++ g ∷ []) (sym (append_assoc o.own (fs ∷ []) more));
  }

-- the groups of an open end, as they stand
open_now : (seen : List (List (List ℕ))) (o : Open seen) → attributes_after seen ≡ o.front ++ o.own ∷ []
open_now seen o =
    ap attributes_after (sym (append-nil seen)) ∙ o.grows [] tt ∙ ap (λ (g : List (List (List ℕ))). o.front ++ g ∷ []) (append-nil o.own)

-- one line more
line_more : (s : State) (line : List ℕ) (seen : List (List (List ℕ))) → Kept s → Told seen s → Told (seen ++ split 9 line ∷ []) (line_of s line)
line_more s line seen h y = line_cases (Seen (seen ++ fs ∷ [])) s line (λ e. cases (h e) (y e))
  where
    end : ℕ
    end = s.bytes + suc (length line)

    fs : List (List ℕ)
    fs = split 9 line

    k : Tag → List (List (List ℕ))
    k g = with_tag (tag_text g) seen

    gs : List (List (List (List ℕ)))
    gs = attributes_after seen

    cases : Held s.entries s.tables → Seen seen s → Cases (Seen (seen ++ fs ∷ [])) s end fs
    cases held z = record {
      on_header = λ w g q p.
          other seen fs header (tag_is header fs refl g) refl refl _ (λ d. omega arith) (omega (arith, z.all))
          (header_says k gs s z.said held end fs w q p);
      on_type = λ w g q p l d.
          other seen fs type (tag_is type fs refl g) refl refl _ (λ d. omega arith) (omega (arith, z.all))
          (type_says k gs s z.said held end fs w q p l d);
      on_value = λ w g q p l.
          other seen fs value (tag_is value fs refl g) refl refl _ (λ d. omega arith) (omega (arith, z.all))
          (value_says k gs s z.said held end fs w q p l);
      on_operation = λ w g q p l m.
          let i = tag_is operation fs refl g in
          record {
            said = told seen fs operation i (gs ++ [] ∷ []) (sym (after_operation seen [] fs i tt)) _ (operation_says k gs s z.said held end fs w q p l m);
            ending = λ _. operation_open seen fs i;
            all = one_more seen fs (omega (arith, z.all));
          };
      on_attribute = λ w g q p l m.
          let i = tag_is attribute fs refl g in
          let o = z.ending p in
          record {
            said =
                told seen fs attribute i (o.front ++ (o.own ++ fs ∷ []) ∷ []) (sym (o.grows (fs ∷ []) (i, tt))) _
                (attribute_says k gs s z.said held end fs w q p l m o.front o.own (open_now seen o));
            ending = λ _. attribute_open seen fs i o;
            all = one_more seen fs (omega (arith, z.all));
          };
      on_block = λ w g q p l m.
          other seen fs block (tag_is block fs refl g) refl refl _ (λ d. omega arith) (omega (arith, z.all))
          (block_says k gs s z.said held end fs w q p l m);
      on_region = λ w g q p l m.
          other seen fs region (tag_is region fs refl g) refl refl _ (λ d. omega arith) (omega (arith, z.all))
          (region_says k gs s z.said held end fs w q p l m);
      on_function = λ w g q p l.
          other seen fs function (tag_is function fs refl g) refl refl _ (λ d. omega arith) (omega (arith, z.all))
          (function_says k gs s z.said held end fs w q p l);
    }

-- ---- all of them: at the end no line is open, and there was one

pub record Whole (seen : List (List (List ℕ))) (s : State) : Type 0 where
  pub begun : 0 < s.lines
  pub seen_all : Seen seen s

abbrev pub Ended : List (List (List ℕ)) → State → Type 0
Ended seen s = s.answer ≡ Ok tt → Whole seen s

all_told : (ls : List (List ℕ)) (s : State) (l : List ℕ) (seen : List (List (List ℕ))) → Kept s → Told seen s
    → Ended (seen ++ cut_lines (l ∷ ls)) (lines_of s (l ∷ ls))
unfolding lines_of cut_lines
all_told [] s l seen h y =
    subst (λ (z : List (List (List ℕ))). Ended z (last_of s (length l))) (sym (append-nil seen))
    (last_cases (Whole seen) s (length l) (λ e b. record { begun = b; seen_all = y e }))
all_told (m ∷ ls) s l seen h y =
    subst (λ (z : List (List (List ℕ))). Ended z (lines_of (line_of s l) (m ∷ ls))) (append_assoc seen (split 9 l ∷ []) (cut_lines (m ∷ ls)))
    (all_told ls (line_of s l) m (seen ++ split 9 l ∷ []) (one_line s l h) (line_more s l seen h y))

-- ---- the start: no line, no entry

start_told : (x : Tables) → Told [] (start_of x)
unfolding with_tag attributes_after
start_told x = by (room_in x)
  where
    by : (q : Answer) → Told [] (started q (fresh x))
    by (Ok _) = λ _. record {
      said = record {
        begun = refl;
        h = record { count = refl; each = λ i l. absurd (omega arith) };
        t = record { count = refl; each = λ i l. absurd (omega arith) };
        v = record { count = refl; each = λ i l. absurd (omega arith) };
        o = record { count = refl; each = λ i l. absurd (omega arith) };
        a = record { count = refl; each = λ i l. absurd (omega arith) };
        b = record { count = refl; each = λ i l. absurd (omega arith) };
        r = record { count = refl; each = λ i l. absurd (omega arith) };
        f = record { count = refl; each = λ i l. absurd (omega arith) };
        groups = refl;
        own = λ i l. absurd (omega arith);
        last = λ e. absurd (omega arith);
      };
      ending = λ e. absurd (omega arith);
      all = refl;
    }
    by (Err r) = λ a. impossible (cc)

pub house_told : (text : List ℕ) (x : Tables) → Ended (cut_lines (split 10 text)) (house text x)
unfolding house
house_told text x = by (split 10 text) (split_cons 10 text)
  where
    by : (ls : List (List ℕ)) → (ps : List (List ℕ)) × (ls ≡ until 10 text ∷ ps) → Ended (cut_lines ls) (lines_of (start_of x) ls)
    by ls p =
        subst (λ (z : List (List ℕ)). Ended (cut_lines z) (lines_of (start_of x) z)) (sym p.1)
        (all_told p.0 (start_of x) (until 10 text) [] (start_kept x) (start_told x))
