-- The walk as code makes it: every visit is asked on the way, and the answers are joined in walk order. "region, block and operation still
-- visit each other in turn"; the depth falls, and what is live is handed on.
use Rattle.std.specs.Prelude.{ℕ, zero, suc, ◌-◌, List, [], ◌∷◌, Ok}
use Rattle.tables.specs.Sizes.{max_depth}
use Rattle.tables.specs.Answer.{and_then, Answer}
use Rattle.nesting.specs.Shape.{Shape, Visit, visit}
use Rattle.nesting.specs.Numbering.{Listing, fine, join}

-- how answers are joined, and the answer of no visit at all
pub record Way (B : Type 0) : Type 0 where
  pub nothing : B
  pub both : B → B → B

-- the first refusal
abbrev pub answers : Way Answer
answers = record { nothing = (Ok tt); both = and_then }

-- the lists one after the other, or the first refusal
abbrev pub listings : {A : Type 0} → Way (Listing A)
listings = record { nothing = fine []; both = join }

abbrev pub all : {A B : Type 0} → Way B → (A → B) → List A → B
all w f [] = w.nothing
all w f (x ∷ xs) = w.both (f x) (all w f xs)

-- of the first entry alone
abbrev pub of_first : {A B : Type 0} → Way B → (A → B) → List A → B
of_first w f [] = w.nothing
of_first w f (x ∷ xs) = f x

-- `grow` is how more becomes live: concatenation, or what a stack takes up
module _ {A B : Type 0} (w : Way B) (grow : List A → List A → List A) (ask : Visit A → B) (s : Shape A) where
  -- operation i, then its regions, each walked by `inside`
  unfoldable pub fold_operation : (List A → ℕ → B) → List A → ℕ → B
  fold_operation inside live i = w.both (ask (visit i live)) (all w (inside (grow live (s.inner i))) (s.regions i))

  abbrev pub fold_operations : (List A → ℕ → B) → List A → List ℕ → B
  fold_operations inside live [] = w.nothing
  fold_operations inside live (i ∷ is) = w.both (fold_operation inside live i) (fold_operations inside (grow live (s.results i)) is)

  unfoldable pub fold_block : (List A → ℕ → B) → List A → ℕ → B
  fold_block inside live j = fold_operations inside (grow live (s.arguments j)) (s.operations j)

  -- region k, no deeper than d blocks
  unfoldable pub fold_region : ℕ → List A → ℕ → B
  fold_region zero live k = w.nothing
  fold_region (suc d) live k = all w (fold_block (fold_region d) live) (s.blocks k)

  -- function after function, each whole
  unfoldable pub fold_whole : B
  fold_whole = all w (λ f. all w (fold_region max_depth []) (s.regions f)) s.functions

  -- function after function, the first block of its first region
  unfoldable pub fold_entry : ℕ → B
  fold_entry f = of_first w (λ k. of_first w (fold_block (fold_region (max_depth - 1)) []) (s.blocks k)) (s.regions f)

  unfoldable pub fold_entries : B
  fold_entries = all w fold_entry s.functions
