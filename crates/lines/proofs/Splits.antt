-- Lines of a text and its first line.
use Rattle.std.proofs.Common.{◌≡◌, ℕ, suc, ◌+◌, ◌<◌, ◌≤◌, Bool, true, false, cond, not, List, [], ◌∷◌, ◌++◌, length, take, drop, Some, sym, refl, ap, ◌∙◌, subst, add-one, one-add, arith}
use Rattle.std.specs.List.{AllByRecursion}
use Rattle.std.proofs.lemmas.List.{append_assoc, drop-drop, length-drop, take-append-drop, take_all}
use Rattle.std.proofs.lemmas.List.Sums.{prefix_len-le-length}
use Rattle.std.proofs.lemmas.Bool.{eqb-true}
use Rattle.lines.specs.Lines.{feed, Plain, onto, split, line_len, after_line, first_line, ended, closed, Cut, Laws}

-- a first line that its 0x0A ends
pub split_feed : (xs ys : List ℕ) → Plain xs → split (xs ++ 10 ∷ ys) ≡ xs ∷ split ys
split_feed [] ys h = refl
split_feed (x ∷ xs) ys (e, h) =
    ap (λ t. cond t ([] ∷ split (xs ++ 10 ∷ ys)) (onto x (split (xs ++ 10 ∷ ys)))) e ∙ ap (onto x) (split_feed xs ys h)

-- the length of the first line
pub line_len-append : (xs ys : List ℕ) → Plain xs → line_len (xs ++ ys) ≡ length xs + line_len ys
line_len-append [] ys h = omega arith
line_len-append (x ∷ xs) ys (e, h) =
    let step : line_len (x ∷ (xs ++ ys)) ≡ 1 + line_len (xs ++ ys) = ap (λ t. cond (not t) (1 + line_len (xs ++ ys)) 0) e in
    omega (arith, step, line_len-append xs ys h)

-- a first line is as long as it says, and holds no 0x0A
front_step : (t : Bool) (n x : ℕ) (xs : List ℕ) → feed x ≡ t → Plain (take n xs) → Plain (take (cond (not t) (1 + n) 0) (x ∷ xs))
front_step true n x xs e h = tt
front_step false n x xs e h = rw one-add (e, h)

pub line_plain : (text : List ℕ) → Plain (take (line_len text) text)
line_plain [] = tt
line_plain (b ∷ bs) = front_step (feed b) (line_len bs) b bs refl (line_plain bs)

-- the first line and what follows give all lines
cut_step : (t : Bool) (b : ℕ) (bs : List ℕ) → ((c : ℕ) (cs : List ℕ) → bs ≡ c ∷ cs → split bs ≡ take (line_len bs) bs ∷ split (after_line bs))
    → cond t ([] ∷ split bs) (onto b (split bs)) ≡ take (cond (not t) (1 + line_len bs) 0) (b ∷ bs) ∷ split (drop (cond (not t) (1 + line_len bs) 0 + 1) (b ∷ bs))
cut_step true b bs more = refl
cut_step false b [] more = refl
cut_step false b (c ∷ cs) more = rw (add-one, one-add (line_len (c ∷ cs))) (ap (onto b) (more c cs refl) ∙ rw add-one)

pub split_first : (b : ℕ) (bs : List ℕ) → split (b ∷ bs) ≡ take (line_len (b ∷ bs)) (b ∷ bs) ∷ split (after_line (b ∷ bs))
split_first b [] = cut_step (feed b) b [] (λ c cs e. cc)
split_first b (c ∷ cs) = cut_step (feed b) b (c ∷ cs) (λ d ds e. split_first c cs)

-- where a text has a 0x0A, it stands after the first line
stop_step : (t : Bool) (n b : ℕ) (bs : List ℕ) → feed b ≡ t → (n < length bs → drop n bs ≡ 10 ∷ drop (n + 1) bs)
    → cond (not t) (1 + n) 0 < length (b ∷ bs) → drop (cond (not t) (1 + n) 0) (b ∷ bs) ≡ 10 ∷ drop (cond (not t) (1 + n) 0 + 1) (b ∷ bs)
stop_step true n b bs e more lt = ap (λ x. x ∷ bs) (eqb-true b 10 e)
stop_step false n b bs e more lt =
    let one : 1 + n ≡ suc n = one-add n in
    let two : 1 + n + 1 ≡ suc (n + 1) = omega arith in
    let less : n < length bs = omega arith in
    ap (λ k. drop k (b ∷ bs)) one ∙ more less ∙ ap (λ k. 10 ∷ drop k (b ∷ bs)) (sym two)

pub line_stops : (text : List ℕ) → line_len text < length text → drop (line_len text) text ≡ 10 ∷ after_line text
line_stops [] lt = absurd (omega arith)
line_stops (b ∷ bs) lt = stop_step (feed b) (line_len bs) b bs refl (line_stops bs) lt

-- the laws
onto_plain : (b : ℕ) (ls : List (List ℕ)) → feed b ≡ false → AllByRecursion Plain ls → AllByRecursion Plain (onto b ls)
onto_plain b [] e h = ((e, tt), tt)
onto_plain b (l ∷ ls) e (p, h) = ((e, p), h)

plain_step : (t : Bool) (b : ℕ) (ls : List (List ℕ)) → feed b ≡ t → AllByRecursion Plain ls → AllByRecursion Plain (cond t ([] ∷ ls) (onto b ls))
plain_step true b ls e h = (tt, h)
plain_step false b ls e h = onto_plain b ls e h

pub split_plain : (text : List ℕ) → AllByRecursion Plain (split text)
split_plain [] = tt
split_plain (b ∷ bs) = plain_step (feed b) b (split bs) refl (split_plain bs)

under_cons : (t : Bool) (b : ℕ) (xs ys : List ℕ) → b ∷ cond t xs ys ≡ cond t (b ∷ xs) (b ∷ ys)
under_cons true b xs ys = refl
under_cons false b xs ys = refl

whole_one : (t : Bool) (b : ℕ) → feed b ≡ t → ended (cond t ([] ∷ []) ((b ∷ []) ∷ [])) ≡ cond t (b ∷ []) (b ∷ 10 ∷ [])
whole_one true b e = ap (λ x. x ∷ []) (sym (eqb-true b 10 e))
whole_one false b e = refl

whole_step : (t : Bool) (b : ℕ) (l : List ℕ) (ls : List (List ℕ)) → feed b ≡ t → ended (cond t ([] ∷ l ∷ ls) (onto b (l ∷ ls))) ≡ b ∷ ended (l ∷ ls)
whole_step true b l ls e = ap (λ x. x ∷ ended (l ∷ ls)) (sym (eqb-true b 10 e))
whole_step false b l ls e = refl

pub split_whole : (text : List ℕ) → ended (split text) ≡ cond (closed text) text (text ++ 10 ∷ [])
split_whole [] = refl
split_whole (b ∷ []) = whole_one (feed b) b refl
split_whole (b ∷ c ∷ cs) =
    let first = split_first c cs in
    ap (λ ls. ended (cond (feed b) ([] ∷ ls) (onto b ls))) first
    ∙ whole_step (feed b) b (take (line_len (c ∷ cs)) (c ∷ cs)) (split (after_line (c ∷ cs))) refl
    ∙ ap (λ ls. b ∷ ended ls) (sym first)
    ∙ ap (λ t. b ∷ t) (split_whole (c ∷ cs))
    ∙ under_cons (closed (c ∷ cs)) b (c ∷ cs) ((c ∷ cs) ++ 10 ∷ [])

pub split-ended : (ls : List (List ℕ)) → AllByRecursion Plain ls → split (ended ls) ≡ ls
split-ended [] h = refl
split-ended (l ∷ ls) (p, h) =
    ap split (append_assoc l (10 ∷ []) (ended ls)) ∙ split_feed l (ended ls) p ∙ ap (λ rest. l ∷ rest) (split-ended ls h)

pub split_only : (text : List ℕ) (ls : List (List ℕ)) → AllByRecursion Plain ls → ended ls ≡ cond (closed text) text (text ++ 10 ∷ []) → ls ≡ split text
split_only text ls h e =
    sym (split-ended ls h) ∙ ap split (e ∙ sym (split_whole text)) ∙ split-ended (split text) (split_plain text)

pub split_laws : (text : List ℕ) → Laws text
split_laws text = record { plain = split_plain text; whole = split_whole text; only = split_only text }

pub first_cuts : (text : List ℕ) → Cut text (first_line text)
first_cuts [] = refl
first_cuts (b ∷ bs) =
    (split_first b bs, omega (arith, length-drop (line_len (b ∷ bs) + 1) (b ∷ bs)))

pub line_len_le : (text : List ℕ) → line_len text ≤ length text
line_len_le text = prefix_len-le-length (λ b. not (feed b)) text

pub first_line_by : (text line rest : List ℕ) → 0 < length text → line ≡ take (line_len text) text → rest ≡ drop 1 (drop (line_len text) text) → Some (line, rest) ≡ first_line text
first_line_by [] line rest some front back = absurd (omega arith)
first_line_by (b ∷ bs) line rest some front back =
    ap Some (λ i. (front i, (back ∙ drop-drop 1 (line_len (b ∷ bs)) (b ∷ bs)) i))

-- a text that begins with bytes of its first line
pub take_line : (xs ys : List ℕ) → Plain xs → take (line_len (xs ++ ys)) (xs ++ ys) ≡ xs ++ take (line_len ys) ys
take_line [] ys h = refl
take_line (x ∷ xs) ys (e, h) =
    let more : line_len (x ∷ (xs ++ ys)) ≡ suc (line_len (xs ++ ys)) = ap (λ t. cond (not t) (1 + line_len (xs ++ ys)) 0) e ∙ one-add (line_len (xs ++ ys)) in
    ap (λ n. take n (x ∷ (xs ++ ys))) more ∙ ap (λ l. x ∷ l) (take_line xs ys h)

pub after_line-append : (xs ys : List ℕ) → Plain xs → after_line (xs ++ ys) ≡ after_line ys
after_line-append [] ys h = refl
after_line-append (x ∷ xs) ys (e, h) =
    let more : line_len (x ∷ (xs ++ ys)) + 1 ≡ suc (line_len (xs ++ ys) + 1) =
    ap (λ t. cond (not t) (1 + line_len (xs ++ ys)) 0 + 1) e ∙ (omega arith) in
    ap (λ n. drop n (x ∷ (xs ++ ys))) more ∙ after_line-append xs ys h

-- a text with a 0x0A, and one with none
pub line_cut : (text : List ℕ) → line_len text < length text → text ≡ take (line_len text) text ++ 10 ∷ after_line text
line_cut text lt = sym (take-append-drop (line_len text) text) ∙ ap (λ l. take (line_len text) text ++ l) (line_stops text lt)

pub plain_whole : (text : List ℕ) → length text ≤ line_len text → Plain text
plain_whole text le = subst Plain (take_all (line_len text) text le) (line_plain text)
