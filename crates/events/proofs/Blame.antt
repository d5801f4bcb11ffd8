-- Readers of words that refuse at the first word at fault, whatever follows it.
use Rattle.std.proofs.Common.{◌≡◌, ℕ, Bool, true, false, cond, ◌⊎◌, List, [], ◌∷◌, ◌++◌, Ok, Err, Result, sym, refl, ap, ◌∙◌, subst, inl, inr, ⊎_elim, append_assoc}
use Rattle.refusal.specs.Refusals.{place_of}
use Rattle.refusal.specs.declared.refusals.Refusal.{Refusal}
use Rattle.refusal.specs.declared.refusals.Refusal.TheVariants as refusal
use Rattle.words.specs.Words.{Placed}
use Rattle.events.specs.Literals.{and_then, with_rest}

-- a reader takes the line's length and the words
abbrev pub Reader : Type 0 → Type 0
Reader X = ℕ → List Placed → Result X Refusal

pub record Blames {X : Type 0} (F : Reader X) (ws : List Placed) (r : Refusal) : Type 0 where
  pub before : List Placed
  pub word : Placed
  pub after : List Placed
  pub whole : before ++ word ∷ after ≡ ws
  pub place : place_of r ≡ word.place
  pub steady : (e : ℕ) (other : List Placed) → F e (before ++ word ∷ other) ≡ Err r

-- what is known of an answer: a refusal is of the line's end or blames a word
abbrev pub Sure : {X : Type 0} → (Reader X → List Placed → X → Type 0) → Reader X → ℕ → List Placed → Result X Refusal → Type 0
Sure P F e ws (Ok x) = P F ws x
Sure P F e ws (Err r) = (r ≡ refusal.UnexpectedNewline e) ⊎ Blames F ws r

-- the same of a reader that has passed the word w, which it may blame
abbrev pub Faulted : {X : Type 0} → Reader X → Placed → Refusal → Type 0
Faulted F w r = (place_of r ≡ w.place) × ((e : ℕ) (other : List Placed) → F e other ≡ Err r)

abbrev pub SurePast : {X : Type 0} → (Reader X → List Placed → X → Type 0) → Reader X → Placed → ℕ → List Placed → Result X Refusal → Type 0
SurePast P F w e ws (Ok x) = P F ws x
SurePast P F w e ws (Err r) = Faulted F w r ⊎ ((r ≡ refusal.UnexpectedNewline e) ⊎ Blames F ws r)

-- of an accepted line nothing is asked
abbrev pub Any : {X : Type 0} → Reader X → List Placed → X → Type 0
Any F ws x = Unit {0}

-- a reader of a part takes some words, and whatever follows them is left
pub record Took {A : Type 0} (F : Reader (A × List Placed)) (ws : List Placed) (x : A × List Placed) : Type 0 where
  pub taken : List Placed
  pub whole : taken ++ x.1 ≡ ws
  pub local : (e : ℕ) (other : List Placed) → F e (taken ++ other) ≡ Ok (x.0, other)

module _ {X : Type 0} (F : Reader X) (w : Placed) where
  abbrev past : Reader X
  past e ws = F e (w ∷ ws)

  blames_next : (ws : List Placed) (r : Refusal) → Blames past ws r → Blames F (w ∷ ws) r
  blames_next ws r b = record { before = w ∷ b.before; word = b.word; after = b.after; whole = ap (λ t. w ∷ t) b.whole; place = b.place; steady = b.steady }

  blames_first : (ws : List Placed) (r : Refusal) → Faulted past w r → Blames F (w ∷ ws) r
  blames_first ws r f = record { before = []; word = w; after = ws; whole = refl; place = f.0; steady = f.1 }

  -- the first word of the list is passed
  pub headed_any : (e : ℕ) (ws : List Placed) (a : Result X Refusal) → SurePast Any past w e ws a → Sure Any F e (w ∷ ws) a
  headed_any e ws (Ok x) h = tt
  headed_any e ws (Err r) h = ⊎_elim (λ f. inr (blames_first ws r f)) (λ k. ⊎_elim inl (λ b. inr (blames_next ws r b)) k) h

pub headed_took : {A : Type 0} (F : Reader (A × List Placed)) (w : Placed) (e : ℕ) (ws : List Placed) (a : Result (A × List Placed) Refusal) → SurePast Took (past F w) w e ws a → Sure Took F e (w ∷ ws) a
headed_took F w e ws (Ok x) h = record { taken = w ∷ h.taken; whole = ap (λ t. w ∷ t) h.whole; local = h.local }
headed_took F w e ws (Err r) h = ⊎_elim (λ f. inr (blames_first F w ws r f)) (λ k. ⊎_elim inl (λ b. inr (blames_next F w ws r b)) k) h

pub onward : {X : Type 0} (P : Reader X → List Placed → X → Type 0) (F : Reader X) (w : Placed) (e : ℕ) (ws : List Placed) (a : Result X Refusal) → Sure P F e ws a → SurePast P F w e ws a
onward P F w e ws (Ok x) h = h
onward P F w e ws (Err r) h = inr h

-- one reader after another
module _ {A B : Type 0} (F : Reader (A × List Placed)) (K : A → Reader B) where
  abbrev both : Reader B
  both e ws = and_then (F e ws) (λ x rest. K x e rest)

  blames_later : (ws : List Placed) (x : A × List Placed) (r : Refusal) → Took F ws x → Blames (K x.0) x.1 r → Blames both ws r
  blames_later ws x r t b = record {
    before = t.taken ++ b.before;
    word = b.word;
    after = b.after;
    whole = append_assoc t.taken b.before (b.word ∷ b.after) ∙ ap (λ u. t.taken ++ u) b.whole ∙ t.whole;
    place = b.place;
    steady = λ e other.
        ap (both e) (append_assoc t.taken b.before (b.word ∷ other))
        ∙ ap (λ a. and_then a (λ y rest. K y e rest)) (t.local e (b.before ++ b.word ∷ other)) ∙ b.steady e other;
  }

  then_any_at : (e : ℕ) (ws : List Placed) (x : A × List Placed) → Took F ws x → (a : Result B Refusal) → Sure Any (K x.0) e x.1 a → Sure Any both e ws a
  then_any_at e ws x t (Ok y) h = tt
  then_any_at e ws x t (Err r) h = ⊎_elim inl (λ b. inr (blames_later ws x r t b)) h

  blames_both : (ws : List Placed) (r : Refusal) → Blames F ws r → Blames both ws r
  blames_both ws r b = record {
    before = b.before;
    word = b.word;
    after = b.after;
    whole = b.whole;
    place = b.place;
    steady = λ e other. ap (λ a. and_then a (λ y rest. K y e rest)) (b.steady e other);
  }

  then_any_of : (e : ℕ) (ws : List Placed) (a : Result (A × List Placed) Refusal) → Sure Took F e ws a → ((x : A) (rest : List Placed) → Sure Any (K x) e rest (K x e rest)) → Sure Any both e ws (and_then a (λ x rest. K x e rest))
  then_any_of e ws (Ok x) t h = then_any_at e ws x t (K x.0 e x.1) (h x.0 x.1)
  then_any_of e ws (Err r) t h = ⊎_elim inl (λ b. inr (blames_both ws r b)) t

  pub then_any : (e : ℕ) (ws : List Placed) → Sure Took F e ws (F e ws) → ((x : A) (rest : List Placed) → Sure Any (K x) e rest (K x e rest)) → Sure Any both e ws (both e ws)
  then_any e ws t h = then_any_of e ws (F e ws) t h

-- a reader with another value for what it took
module _ {A B : Type 0} (f : A → B) (F : Reader (A × List Placed)) where
  abbrev turned : Result (A × List Placed) Refusal → Result (B × List Placed) Refusal
  turned a = and_then a (λ x rest. Ok (f x, rest))

  turned_of : (e : ℕ) (ws : List Placed) (a : Result (A × List Placed) Refusal) → Sure Took F e ws a → Sure Took (λ e ws. turned (F e ws)) e ws (turned a)
  turned_of e ws (Ok x) t = record { taken = t.taken; whole = t.whole; local = λ d other. ap turned (t.local d other) }
  turned_of e ws (Err r) t = ⊎_elim inl (λ b. inr (record { before = b.before; word = b.word; after = b.after; whole = b.whole; place = b.place; steady = λ d other. ap turned (b.steady d other) })) t

  pub turned_took : (e : ℕ) (ws : List Placed) → Sure Took F e ws (F e ws) → Sure Took (λ e ws. turned (F e ws)) e ws (turned (F e ws))
  turned_took e ws t = turned_of e ws (F e ws) t

-- an answer that keeps refusals as they are
module _ {A B : Type 0} (f : Result A Refusal → Result B Refusal) (ok : (x : A) → (y : B) × (f (Ok x) ≡ Ok y)) (err : (r : Refusal) → f (Err r) ≡ Err r) (F : Reader A) where
  kept_of : (e : ℕ) (ws : List Placed) (a : Result A Refusal) → Sure Any F e ws a → Sure Any (λ e ws. f (F e ws)) e ws (f a)
  kept_of e ws (Ok x) h = subst (Sure Any (λ e ws. f (F e ws)) e ws) (sym (ok x).1) tt
  kept_of e ws (Err r) h =
      subst (Sure Any (λ e ws. f (F e ws)) e ws) (sym (err r))
      (⊎_elim inl (λ b. inr (record { before = b.before; word = b.word; after = b.after; whole = b.whole; place = b.place; steady = λ d other. ap f (b.steady d other) ∙ err r })) h)

  pub kept_any : (e : ℕ) (ws : List Placed) → Sure Any F e ws (F e ws) → Sure Any (λ e ws. f (F e ws)) e ws (f (F e ws))
  kept_any e ws h = kept_of e ws (F e ws) h

-- a reader that has passed w, and another after it
module _ {A B : Type 0} (F : Reader (A × List Placed)) (K : A → Reader B) (w : Placed) where
  then_past_of : (e : ℕ) (ws : List Placed) (a : Result (A × List Placed) Refusal) → SurePast Took F w e ws a → ((x : A) (rest : List Placed) → Sure Any (K x) e rest (K x e rest)) → SurePast Any (both F K) w e ws (and_then a (λ x rest. K x e rest))
  then_past_of e ws (Ok x) t h = onward Any (both F K) w e ws (K x.0 e x.1) (then_any_at F K e ws x t (K x.0 e x.1) (h x.0 x.1))
  then_past_of e ws (Err r) t h =
      ⊎_elim (λ f. inl (f.0, λ d other. ap (λ a. and_then a (λ y rest. K y d rest)) (f.1 d other))) (λ k. inr (⊎_elim inl (λ b. inr (blames_both F K ws r b)) k)) t

  pub then_past : (e : ℕ) (ws : List Placed) → SurePast Took F w e ws (F e ws) → ((x : A) (rest : List Placed) → Sure Any (K x) e rest (K x e rest)) → SurePast Any (both F K) w e ws (both F K e ws)
  then_past e ws t h = then_past_of e ws (F e ws) t h

-- readers that have passed w
module _ {X : Type 0} (P : Reader X → List Placed → X → Type 0) (w : Placed) (e : ℕ) (ws : List Placed) where
  pub refused_past : (r : Refusal) → place_of r ≡ w.place → SurePast P (λ e ws. Err r) w e ws (Err r)
  refused_past r p = inl (p, λ _ _. refl)

  pub cond_past : (t : Bool) (G H : Reader X) → SurePast P G w e ws (G e ws) → SurePast P H w e ws (H e ws) → SurePast P (λ e ws. cond t (G e ws) (H e ws)) w e ws (cond t (G e ws) (H e ws))
  cond_past true G H g h = g
  cond_past false G H g h = h

pub took_past : {A : Type 0} (w : Placed) (e : ℕ) (ws : List Placed) (x : A) → SurePast Took (λ e ws. Ok (x, ws)) w e ws (Ok (x, ws))
took_past w e ws x = record { taken = []; whole = refl; local = λ _ _. refl }

-- an answer that depends on the word w alone
abbrev pub At : {A : Type 0} → ℕ → Result A Refusal → Type 0
At p (Ok a) = Unit {0}
At p (Err r) = place_of r ≡ p

pub fixed_took : {A : Type 0} (w : Placed) (e : ℕ) (ws : List Placed) (a : Result A Refusal) → At w.place a → SurePast Took (λ e ws. with_rest ws a) w e ws (with_rest ws a)
fixed_took w e ws (Ok x) h = took_past w e ws x
fixed_took w e ws (Err r) h = refused_past Took w e ws r h

pub fixed_any : {A : Type 0} (w : Placed) (e : ℕ) (ws : List Placed) (a : Result A Refusal) → At w.place a → SurePast Any (λ e ws. a) w e ws a
fixed_any w e ws (Ok x) h = tt
fixed_any w e ws (Err r) h = refused_past Any w e ws r h
