-- A word among the words of a text: what stands before it, and that what follows does not matter to it.
use Rattle.std.proofs.Common.{◌≡◌, ℕ, ◌+◌, ◌<◌, false, List, [], ◌∷◌, ◌++◌, length, sym, refl, ap, ◌∙◌, subst, ⊎_elim, append_assoc, arith}
use Rattle.std.proofs.lemmas.List.{length-append}
use Rattle.std.proofs.lemmas.Bool.{cases_lt}
use Rattle.words.specs.Words.{next_word, Placed, at, starts, words}
use Rattle.words.proofs.Leads.{next_word_cuts}
use Rattle.words.proofs.Places.{Blank, Plain, next_passed, cut_none, starts_none}

pub record Around (p : ℕ) (text : List ℕ) (before : List Placed) (w : Placed) : Type 0 where
  pub front : List ℕ
  pub tail : List ℕ
  pub whole : front ++ (w.letters ++ tail) ≡ text
  pub place : p + length front ≡ w.place
  pub plain : Plain w.letters
  pub some : 0 < length w.letters
  pub apart : starts tail ≡ false
  -- with anything else after it the word and those before it are the same
  pub again : (other : List ℕ) → starts other ≡ false → words p (front ++ (w.letters ++ other)) ≡ before ++ w ∷ words (w.place + length w.letters) other
  pub begins : (other : List ℕ) → starts (front ++ (w.letters ++ other)) ≡ starts text

same_start : (xs ys zs : List ℕ) → 0 < length xs → starts (xs ++ ys) ≡ starts (xs ++ zs)
same_start [] ys zs h = absurd (omega arith)
same_start (x ∷ xs) ys zs h = refl

same_start_in : (xs ws ys zs : List ℕ) → 0 < length ws → starts (xs ++ (ws ++ ys)) ≡ starts (xs ++ (ws ++ zs))
same_start_in [] ws ys zs h = same_start ws ys zs h
same_start_in (x ∷ xs) ws ys zs h = refl

-- a text from its first word on
record Begun (p : ℕ) (text : List ℕ) : Type 0 where
  pub gap : List ℕ
  pub word : List ℕ
  pub rest : List ℕ
  pub whole : gap ++ (word ++ rest) ≡ text
  pub blank : Blank gap
  pub plain : Plain word
  pub some : 0 < length word
  pub apart : starts rest ≡ false
  pub is : words p text ≡ at (p + length gap) word ∷ words (p + length gap + length word) rest

begun : (p : ℕ) (text : List ℕ) (w : Placed) (ws : List Placed) → words p text ≡ w ∷ ws → Begun p text
begun p text w ws e =
    let word = (next_word text).0 in
    let rest = (next_word text).1 in
    let cut = next_word_cuts text in
    let apart = starts_none rest cut.stops in
    ⊎_elim
    (λ some. record {
      gap = cut.whole.0;
      word = word;
      rest = rest;
      whole = cut.whole.2;
      blank = cut.whole.1;
      plain = cut.plain;
      some = some;
      apart = apart;
      is = ap (words p) (sym cut.whole.2) ∙ next_passed p cut.whole.0 word rest cut.whole.1 cut.plain some apart;
    })
    (λ none. let nothing : [] ≡ w ∷ ws = sym (cut_none p text word rest cut (omega arith)) ∙ e in cc)
    (cases_lt 0 (length word))

head_is : (u v : Placed) (us vs : List Placed) → u ∷ us ≡ v ∷ vs → u ≡ v
head_is u v us vs e = cc

tail_is : (u v : Placed) (us vs : List Placed) → u ∷ us ≡ v ∷ vs → us ≡ vs
tail_is u v us vs e = cc

first_around : (p : ℕ) (text : List ℕ) (w : Placed) (after : List Placed) → words p text ≡ w ∷ after → Around p text [] w
first_around p text w after e =
    let b = begun p text w after e in
    let same : at (p + length b.gap) b.word ≡ w = head_is _ _ _ _ (sym b.is ∙ e) in
    subst (Around p text []) same (record {
      front = b.gap;
      tail = b.rest;
      whole = b.whole;
      place = refl;
      plain = b.plain;
      some = b.some;
      apart = b.apart;
      again = λ other h. next_passed p b.gap b.word other b.blank b.plain b.some h;
      begins = λ other. same_start_in b.gap b.word other b.rest b.some ∙ ap starts b.whole;
    })

pub around : (before : List Placed) (p : ℕ) (text : List ℕ) (w : Placed) (after : List Placed) → words p text ≡ before ++ w ∷ after → Around p text before w
around [] p text w after e = first_around p text w after e
around (u ∷ us) p text w after e =
    let b = begun p text u (us ++ w ∷ after) e in
    let both = sym b.is ∙ e in
    let q = p + length b.gap + length b.word in
    let inner = around us q b.rest w after (tail_is _ _ _ _ both) in
    let same : at (p + length b.gap) b.word ≡ u = head_is _ _ _ _ both in
    let onto = λ (other : List ℕ). append_assoc b.gap (b.word ++ inner.front) (w.letters ++ other) ∙ ap (λ t. b.gap ++ t) (append_assoc b.word inner.front (w.letters ++ other)) in
    record {
      front = b.gap ++ (b.word ++ inner.front);
      tail = inner.tail;
      whole = onto inner.tail ∙ ap (λ t. b.gap ++ (b.word ++ t)) inner.whole ∙ b.whole;
      place = omega (arith, length-append b.gap (b.word ++ inner.front), length-append b.word inner.front, inner.place);
      plain = inner.plain;
      some = inner.some;
      apart = inner.apart;
      again = λ other h.
          ap (words p) (onto other)
          ∙ next_passed p b.gap b.word (inner.front ++ (w.letters ++ other)) b.blank b.plain b.some (inner.begins other ∙ b.apart)
          ∙ (λ i. same i ∷ inner.again other h i);
      begins = λ other. ap starts (onto other) ∙ same_start_in b.gap b.word (inner.front ++ (w.letters ++ other)) b.rest b.some ∙ ap starts b.whole;
    }
