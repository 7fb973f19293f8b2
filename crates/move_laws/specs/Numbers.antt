-- The checks by their numbers.
use Rattle.std.specs.Prelude.{ℕ, Bool, true, ◌&&◌, nat_lt, List, [], ◌∷◌}
use Rattle.move_laws.specs.Prelude.{Check, check_number}

-- the checks' numbers rise, from above a number on
abbrev pub rises_from : ℕ → List Check → Bool
rises_from n [] = true
rises_from n (c ∷ cs) = nat_lt n (check_number c) && rises_from (check_number c) cs
