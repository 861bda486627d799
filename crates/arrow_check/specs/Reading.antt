-- Bytes that a text check reads, and what the reading costs.
use Rattle.std.specs.Prelude.{◌≡◌, ℕ, ◌+◌, ◌-◌, ◌^◌, ◌≤◌, List, nat_lt, if◌then◌else◌}
use Rattle.std.proofs.Common.{zero, suc}

-- how often each act was done: tests whether bytes are ASCII, tests whether they are UTF-8, looks at a byte
pub record Cost : Type 0 where
  pub ascii_tests : ℕ
  pub whole_tests : ℕ
  pub bytes_looked : ℕ

-- the bytes, and what reading them cost so far
pub record Reading : Type 0 where
  pub bytes : List ℕ
  pub cost : Cost

abbrev pub no_cost : Cost
no_cost = record { ascii_tests = 0; whole_tests = 0; bytes_looked = 0 }

-- one more; a count at the greatest number that it holds stays there
abbrev pub one_more : ℕ → ℕ
one_more count = if nat_lt count (2 ^ 64 - 1) then count + 1 else count

-- `steps` more, one after the other
abbrev pub many_more : ℕ → ℕ → ℕ
many_more zero count = count
many_more (suc steps) count = one_more (many_more steps count)

-- after one test whether bytes are ASCII: its count has one more, and all else stays
abbrev pub after_ascii : Reading → Reading
after_ascii r = record r { cost = record r.cost { ascii_tests = one_more r.cost.ascii_tests } }

-- after one test whether bytes are UTF-8
abbrev pub after_whole_test : Reading → Reading
after_whole_test r = record r { cost = record r.cost { whole_tests = one_more r.cost.whole_tests } }

-- after one look at a byte
abbrev pub after_look : Reading → Reading
after_look r = record r { cost = record r.cost { bytes_looked = one_more r.cost.bytes_looked } }

-- after `looks` looks, at a byte each
abbrev pub after_looks : ℕ → Reading → Reading
after_looks looks r = record r { cost = record r.cost { bytes_looked = many_more looks r.cost.bytes_looked } }

-- from one reading to a later one: looks alone, at most `most` of them
pub record LooksAtMost (most : ℕ) (old new : Reading) : Type 0 where
  pub looks : ℕ
  pub few : looks ≤ most
  pub is : new ≡ after_looks looks old

-- a count is as before or higher, by at most `steps`
pub record RisesAtMost (steps old new : ℕ) : Type 0 where
  pub never_falls : old ≤ new
  pub most : new ≤ old + steps

-- from one reading to a later one: the same bytes, and at most this many of each act
pub record ReadsAtMost (ascii_tests whole_tests looks : ℕ) (old new : Reading) : Type 0 where
  pub bytes : new.bytes ≡ old.bytes
  pub ascii : RisesAtMost ascii_tests old.cost.ascii_tests new.cost.ascii_tests
  pub whole : RisesAtMost whole_tests old.cost.whole_tests new.cost.whole_tests
  pub looked : RisesAtMost looks old.cost.bytes_looked new.cost.bytes_looked
