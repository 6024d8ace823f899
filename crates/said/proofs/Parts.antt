-- Lists: what stands where a list was written, a part of a list that grows behind, and one line more. Assumes nothing.
use Prim.Native.Nat.{ℕ, zero, suc, ◌+◌, ◌≤◌, ◌<◌}
use mathlib.Core.Path.{◌≡◌, refl, sym, ◌∙◌, ap}
use mathlib.Core.List.{List, [], ◌∷◌, ◌++◌, append_assoc, map}
use mathlib.Core.Logic.{⊎_elim}
use native.Mathlib.Omega.{arith}
use lib.ListN.{length, get_or, take, drop, length-append, length-drop, get_or-append}
use lib.Seq.{sets, sets-eq, drop_at, drop-drop, drop-cons, take_all, take-append-le, take-append_seam, drop-append-le, drop-append_seam, length-take-le, get_or_at}
use Rattle.cells.specs.Lists.{from}
use Rattle.cells.proofs.Rows.{lt_or_ge}
use Rattle.lines.specs.Field.{Read, says}
use Rattle.said.specs.Said.{Holds}

-- ---- a list written from e on: it stands there, part by part

pub written : (new l : List ℕ) (e : ℕ) → e + length new ≤ length l → drop e (sets l e new) ≡ new ++ drop (e + length new) l
written new l e h =
    ap (drop e) (sets-eq new l e h ∙ append_assoc (take e l) new (drop (e + length new) l))
    ∙ drop_at (take e l) (new ++ drop (e + length new) l) e (length-take-le e l (omega arith))

module _ {ℓ} {A : Type ℓ} (l : List A) (e : ℕ) where
  pub front_part : (a b : List A) → drop e l ≡ a ++ b → take (length a) (drop e l) ≡ a
  front_part a b h = ap (take (length a)) h ∙ take-append_seam a b

  pub next_part : (a b c : List A) → drop e l ≡ a ++ b ++ c → take (length b) (drop (e + length a) l) ≡ b
  next_part a b c h =
      ap (take (length b)) (sym (drop-drop (length a) e l) ∙ ap (drop (length a)) (h ∙ append_assoc a b c) ∙ drop-append_seam a (b ++ c))
      ∙ take-append_seam b c

-- ---- a part of a list that grows behind

module _ {ℓ} {A : Type ℓ} (l : List A) (start len : ℕ) where
  pub part_before : (more : List A) → start + len ≤ length l → take len (drop start (l ++ more)) ≡ take len (drop start l)
  part_before more h =
      ap (take len) (drop-append-le start l more (omega arith))
      ∙ take-append-le len (drop start l) more (let k = length-drop start l in omega arith)

  pub part_grows : (a : A) → start + len ≡ length l → take (len + 1) (drop start (l ++ a ∷ [])) ≡ take len (drop start l) ++ a ∷ []
  part_grows a h =
      let k : length (drop start l) ≡ len = length-drop start l ∙ omega arith in
      let m = length-append (drop start l) (a ∷ []) in
      ap (take (len + 1)) (drop-append-le start l (a ∷ []) (omega arith))
      ∙ take_all (len + 1) (drop start l ++ a ∷ []) (omega arith)
      ∙ sym (ap (λ (p : List A). p ++ a ∷ []) (take_all len (drop start l) (omega arith)))

-- the entries of a run of ids
pub entries_of_run : {A : Type 0} (d : A) (l : List A) (start len : ℕ) → start + len ≤ length l
    → map (λ k. get_or l k d) (from start len) ≡ take len (drop start l)
entries_of_run d l start zero h = refl
entries_of_run d l start (suc len) h =
    ap (λ (r : List _). get_or l start d ∷ r) (entries_of_run d l (suc start) len (omega arith))
    ∙ sym (ap (take (suc len)) (drop-cons l start d (omega arith)))

-- ---- entries that stay, and one line more

module _ {A : Type 0} (say : List (List ℕ) → Read A) (lines : List (List (List ℕ))) (old new : ℕ → A) (n : ℕ) (h : Holds say lines old n)
    (same : (i : ℕ) → i < n → new i ≡ old i) where
  pub holds_still : Holds say lines new n
  holds_still = record { count = h.count; each = λ i l. h.each i l ∙ ap says (sym (same i l)) }

  pub holds_more : (fs : List (List ℕ)) → say fs ≡ says (new n) → Holds say (lines ++ fs ∷ []) new (suc n)
  holds_more fs e = record {
    count = length-append lines (fs ∷ []) ∙ (let k = h.count in omega arith);
    each = λ i l. ⊎_elim
        (λ k. ap say (get_or-append lines (fs ∷ []) [] i (let m = h.count in omega arith)) ∙ holds_still.each i k)
        (λ k.
        let m : n ≡ i = omega arith in
        ap say (get_or_at lines fs [] [] i (h.count ∙ m)) ∙ e ∙ ap (λ (j : ℕ). says (new j)) m)
        (lt_or_ge i n);
  }
