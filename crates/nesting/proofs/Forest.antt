-- A forest: where nothing is listed twice, a walk of any depth opens nothing twice. Assumes nothing.
use Prim.Native.Nat.{ℕ, zero, suc, ◌+◌}
use native.Mathlib.Omega.{arith}
use mathlib.Core.Path.{◌≡◌, refl, ap, sym, ◌∙◌, subst}
use mathlib.Core.Logic.{⊎_elim}
use mathlib.Core.List.{List, [], ◌∷◌}
use Rattle.cells.specs.Lists.{flat}
use Rattle.nesting.specs.In.{In, here, later}
use Rattle.nesting.proofs.Lists.{in_none, in_single, in_split, from_flat}
use Rattle.nesting.proofs.Distinct.{Distinct, empty, more, distinct_append, Once}

-- what a walk of depth e opens
abbrev pub opens : {A : Type 0} → (A → List A) → ℕ → A → List A
opens kids zero x = []
opens kids (suc e) x = x ∷ flat (opens kids e) (kids x)

-- a forest: x is reached from r in m steps
module _ {A : Type 0} (kids : A → List A) (o : Once kids) where
  abbrev Reach : ℕ → A → A → Type 0
  Reach zero r x = r ≡ x
  Reach (suc m) r x = (p : A) × Reach m r p × In x (kids p)

  reach_first : (m : ℕ) (x y z : A) → In y (kids x) → Reach m y z → Reach (suc m) x z
  reach_first zero x y z h r = (x, refl, subst (λ w. In w (kids x)) r h)
  reach_first (suc m) x y z h r = (r.0, reach_first m x y r.0 h r.1, r.2)

  -- by so many steps, from one only
  reach_same : (m : ℕ) (a b x : A) → Reach m a x → Reach m b x → a ≡ b
  reach_same zero a b x p q = p ∙ sym q
  reach_same (suc m) a b x p q =
      reach_same m a b p.0 p.1 (subst (Reach m b) (sym (o.same p.2 q.2)) q.1)

  opened : (e : ℕ) (x y : A) → In y (opens kids e x) → (m : ℕ) × Reach m x y
  opened zero x y h = in_none h
  opened (suc e) x y h = ⊎_elim (λ a. (0, sym (in_single a))) (λ b.
      let f = from_flat (opens kids e) (kids x) b in
      let r = opened e f.parent y f.holds in
      (suc r.0, reach_first r.0 x f.parent y f.listed r.1)) (in_split (x ∷ []) h)

  abbrev Root : A → Type 0
  Root r = (p : A) → In r (kids p) → ⊥

  -- a depth is one only
  reach_depth : (m n : ℕ) (r s x : A) → Root r → Root s → Reach m r x → Reach n s x → m ≡ n
  reach_depth zero zero r s x f g p q = refl
  reach_depth zero (suc n) r s x f g p q = absurd (f q.0 (subst (λ w. In w (kids q.0)) (sym p) q.2))
  reach_depth (suc m) zero r s x f g p q = absurd (g p.0 (subst (λ w. In w (kids p.0)) (sym q) p.2))
  reach_depth (suc m) (suc n) r s x f g p q =
      ap suc (reach_depth m n r s p.0 f g p.1 (subst (Reach n s) (sym (o.same p.2 q.2)) q.1))

  reach_on : (m a : ℕ) (r x y : A) → Reach m r x → Reach a x y → Reach (m + a) r y
  reach_on m zero r x y p q = let e : m ≡ m + 0 = omega arith in subst (λ (k : ℕ). Reach k r y) e (subst (Reach m r) q p)
  reach_on m (suc a) r x y p q =
      let e : suc (m + a) ≡ m + suc a = omega arith in
      let z : Reach (suc (m + a)) r y = (q.0, reach_on m a r x q.0 p q.1, q.2) in
      subst (λ (k : ℕ). Reach k r y) e z

  pub record Level (m : ℕ) (x : A) : Type 0 where
    pub root : A
    pub is_root : Root root
    pub reached : Reach m root x

  level_kid : (m : ℕ) (x y : A) → Level m x → In y (kids x) → Level (suc m) y
  level_kid m x y l h = record { root = l.root; is_root = l.is_root; reached = (x, l.reached, h) }

  depth : (m n a b : ℕ) (x y z : A) → Level m x → Level n y → Reach a x z → Reach b y z → m + a ≡ n + b
  depth m n a b x y z l k p q = reach_depth (m + a) (n + b) l.root k.root z l.is_root k.is_root
      (reach_on m a l.root x z l.reached p) (reach_on n b k.root y z k.reached q)

  forest_step : (e : ℕ) → ((m : ℕ) (xs : List A) → Distinct xs → ((x : A) → In x xs → Level m x) → Distinct (flat (opens kids e) xs))
      → (m : ℕ) {xs : List A} → Distinct xs → ((x : A) → In x xs → Level m x) → Distinct (flat (opens kids (suc e)) xs)
  forest_step e ih m empty l = empty
  forest_step e ih m (more {x} {xs} h p) l =
      distinct_append (more
      (λ i. let f = from_flat (opens kids e) (kids x) i in
      let r = opened e f.parent x f.holds in
      let z : m + 0 ≡ m + suc r.0 =
      depth m m 0 (suc r.0) x x x (l x here) (l x here) refl (reach_first r.0 x f.parent x f.listed r.1) in
      omega arith)
      (ih (suc m) (kids x) (o.one x) (λ y i. level_kid m x y (l x here) i)))
      (forest_step e ih m p (λ y i. l y (later i)))
      (λ z i j.
      let f = from_flat (opens kids (suc e)) xs j in
      let a = opened (suc e) x z i in
      let b = opened (suc e) f.parent z f.holds in
      let d : m + a.0 ≡ m + b.0 = depth m m a.0 b.0 x f.parent z (l x here) (l f.parent (later f.listed)) a.1 b.1 in
      let k : b.0 ≡ a.0 = omega arith in
      let q : x ≡ f.parent = reach_same a.0 x f.parent z a.1 (subst (λ (w : ℕ). Reach w f.parent z) k b.1) in
      h (subst (λ w. In w xs) (sym q) f.listed))

  flat_none : (xs : List A) → flat (opens kids 0) xs ≡ []
  flat_none [] = refl
  flat_none (x ∷ xs) = flat_none xs

  -- a walk from distinct entries of one level opens nothing twice
  pub forest : (e m : ℕ) (xs : List A) → Distinct xs → ((x : A) → In x xs → Level m x) → Distinct (flat (opens kids e) xs)
  forest zero m xs p l = rw (flat_none xs) empty
  forest (suc e) m xs p l = forest_step e (forest e) m p l
