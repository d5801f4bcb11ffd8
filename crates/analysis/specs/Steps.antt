-- The steps by which the data of a term are filled, for the functions of this crate alone; what they come to is in the other files.
--   no_data e               the data of a term that no assignment names
--   one_more op x d         the data d with one assignment more, at a node of the total x; a count of 2^64 - 1 stays
--   posted op v x d         the data d of a term with one assignment more, of the value v
use Rattle.std.specs.Prelude.{◌+◌, ◌-◌, ◌^◌, min, Bool, true, false}
use Rattle.analysis.specs.declared.data.AssignData.{AssignData}
use Rattle.analysis.specs.declared.data.TermData.{TermData}

abbrev pub no_data : {M : Type 0} → M → TermData M
no_data e = record { positive = record { count = 0; charge = e }; negative = record { count = 0; charge = e } }

abbrev pub one_more : {M : Type 0} → (M → M → M) → M → AssignData M → AssignData M
one_more op x d = record { count = min (d.count + 1) (2 ^ 64 - 1); charge = op d.charge x }

abbrev pub posted : {M : Type 0} → (M → M → M) → Bool → M → TermData M → TermData M
posted op true x d = record { positive = one_more op x d.positive; negative = d.negative }
posted op false x d = record { positive = d.positive; negative = one_more op x d.negative }
