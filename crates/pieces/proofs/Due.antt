-- What is due of an input, step by step and piece by piece.
use Rattle.std.proofs.Common.{◌≡◌, ℕ, zero, suc, ◌+◌, ◌<◌, ◌≤◌, List, [], ◌∷◌, ◌++◌, map, length, take, drop, sym, refl, ap, ◌∙◌, arith}
use Rattle.std.specs.List.{flat_map}
use Rattle.std.specs.Option.{option_to_list}
use Rattle.std.proofs.lemmas.List.{append-nil, append_assoc, length-append, length-drop, take_rest}
use Rattle.std.proofs.lemmas.Bool.Decides.{nat_tests}
use Rattle.lines.specs.Lines.{Plain, split, line_len, after_line}
use Rattle.lines.proofs.Splits.{split_first, split_feed, line_cut, line_plain, line_len_le, plain_whole, take_line, after_line-append}
use Rattle.pieces.specs.Reading.{Pending, kept, over, too_long, judged, resumed, due, grown, handed, next_line, Hands, last_line, over_piece, over_pieces, Reads}

-- bytes of the first line may stand before the text or have come earlier
pub resumed_more : (bytes xs text : List ℕ) → Plain xs → resumed bytes (xs ++ text) ≡ resumed (bytes ++ xs) text
resumed_more [] [] text h = refl
resumed_more [] (x ∷ xs) text h = cc (split_first x (xs ++ text), take_line (x ∷ xs) text h, after_line-append (x ∷ xs) text h)
resumed_more (b ∷ bs) xs text h = cc (take_line xs text h, after_line-append xs text h, append_assoc bs xs (take (line_len text) text))

pub resumed_feed : (bytes xs text : List ℕ) → Plain xs → resumed bytes (xs ++ 10 ∷ text) ≡ (bytes ++ xs) ∷ split text
resumed_feed [] xs text h = split_feed xs text h
resumed_feed (b ∷ bs) xs text h = cc (take_line xs (10 ∷ text) h, after_line-append xs (10 ∷ text) h, append-nil xs)

pub resumed_split : (bytes text : List ℕ) → Plain bytes → resumed bytes text ≡ split (bytes ++ text)
resumed_split bytes text h = sym (resumed_more [] bytes text h)

module _ (limit : ℕ) where
  -- a line that is too long already is due as such
  due_over : (bytes more : List ℕ) → limit < length bytes → due limit (kept bytes) more ≡ due limit over more
  due_over [] more lt = absurd (omega arith)
  due_over (b ∷ bs) more lt = grind (arith, nat_tests, length-append)

  due_grown : (p : Pending) (xs more : List ℕ) → Plain xs → due limit p (xs ++ more) ≡ due limit (grown limit p xs) more
  due_grown (kept bytes) xs more h = grind (arith, nat_tests, resumed_more, due_over, length-append)
  due_grown over xs more h = ap (λ l. too_long ∷ map (judged limit) (split l)) (after_line-append xs more h)

  due_feed : (p : Pending) (xs more : List ℕ) → Plain xs → due limit p (xs ++ 10 ∷ more) ≡ handed (grown limit p xs) ∷ due limit (kept []) more
  due_feed (kept bytes) xs more h = grind (arith, nat_tests, resumed_feed, length-append)
  due_feed over xs more h = ap (λ l. too_long ∷ map (judged limit) (split l)) (after_line-append xs (10 ∷ more) h)

  -- what is due first of a text in which a line ends, and of one in which none does
  pub due_ends : (p : Pending) (text more : List ℕ) → line_len text < length text
      → due limit p (text ++ more) ≡ handed (grown limit p (take (line_len text) text)) ∷ due limit (kept []) (drop (line_len text + 1) text ++ more)
  due_ends p text more lt =
      let cut = line_cut text lt in
      cc (append_assoc (take (line_len text) text) (10 ∷ after_line text) more, due_feed p (take (line_len text) text) (after_line text ++ more) (line_plain text))

  pub due_goes_on : (p : Pending) (text more : List ℕ) → length text ≤ line_len text → due limit p (text ++ more) ≡ due limit (grown limit p text) more
  due_goes_on p text more le = due_grown p text more (plain_whole text le)

  -- one step hands out what is due next
  pub due_next : (p : Pending) (text : List ℕ) → Hands limit p text (next_line limit p text)
  due_next p text more = grind (arith, nat_tests, due_ends, due_goes_on)

  -- at the input's end
  pub due_last : (p : Pending) → due limit p [] ≡ option_to_list (last_line limit p)
  due_last (kept []) = refl
  due_last (kept (b ∷ bs)) = ap (λ l. judged limit (b ∷ l) ∷ []) (append-nil bs)
  due_last over = refl

  -- over a piece, and over all pieces
  due_piece : (n : ℕ) (p : Pending) (text more : List ℕ) → length text < n
      → due limit p (text ++ more) ≡ (over_piece n limit p text).0 ++ due limit (over_piece n limit p text).1 more
  due_piece zero p text more lt = absurd (omega arith)
  due_piece (suc n) p text more lt =
      grind (arith, nat_tests, due_ends, due_goes_on, length-drop, due_piece n (kept []) (after_line text) more)

  due_pieces : (p : Pending) (pieces : List (List ℕ)) → due limit p (flat_map (λ (l : List ℕ). l) pieces) ≡ over_pieces limit p pieces
  due_pieces p [] = due_last p
  due_pieces p (piece ∷ pieces) =
      let s = over_piece (suc (length piece)) limit p piece in
      due_piece (suc (length piece)) p piece (flat_map (λ (l : List ℕ). l) pieces) (omega arith)
      ∙ ap (λ os. s.0 ++ os) (due_pieces s.1 pieces)

  pub reads : Reads limit
  reads = record { whole = λ pieces. sym (due_pieces (kept []) pieces); resumes = resumed_split }

-- what a step over a text needs
pub ruleset steps = (line_len_le, take_rest, due_ends, due_goes_on, reads)
