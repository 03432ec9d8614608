-- THE NUMBERS BY WHICH RECORDS ARE COUNTED ALONG A CHAIN (document 01, "The book in bytes"; document 02, P8), as in src/bounds.rt. Definitions only.
-- Assumes nothing.
use Rattle.std.specs.Prelude.{ℕ}

-- The numbers that a portfolio's byte can be: below 256
abbrev pub portfolio_numbers : ℕ
portfolio_numbers = 256

-- The numbers that a step's hour, 1 to 24, can be: below 25
abbrev pub hour_numbers : ℕ
hour_numbers = 25

-- The most steps of a portfolio in one hour: 256
abbrev pub most_steps_in_hour : ℕ
most_steps_in_hour = 256
