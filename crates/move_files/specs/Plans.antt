-- When the calls that are counted for each name fail.
--     calls_left plans name         the next failing call of the name, counted from 1; 0 where none is to fail
--     faults_in plans name          how often calls of the name have failed
--     StaysElsewhere name old new   a number that is kept for each name stays for every other name
--     CountsDown name old new       a call of the name was counted: its failing call is one nearer, if there is one
use Rattle.std.specs.Prelude.{◌≡◌, ◌≢◌, ◌-◌, ℕ, List}
use Rattle.std.specs.Option.{option_map_or}
use Rattle.std.specs.declared.alloc.Global.{Global}
use Rattle.std.specs.declared.string.String.{String}
use Rattle.std.specs.BTreeMap.{BTreeMap, get_by_text}
use Rattle.move_files.specs.declared.mem_files.Plan.{Plan}

-- the next failing call of the name, counted from 1; 0 where none is to fail
abbrev pub calls_left : BTreeMap (String Global) Plan → List ℕ → ℕ
calls_left plans name = option_map_or (λ p. p.left) (get_by_text plans name) 0

-- how often calls of the name have failed
abbrev pub faults_in : BTreeMap (String Global) Plan → List ℕ → ℕ
faults_in plans name = option_map_or (λ p. p.faults) (get_by_text plans name) 0

-- a number that is kept for each name stays for every other name
abbrev pub StaysElsewhere : List ℕ → (List ℕ → ℕ) → (List ℕ → ℕ) → Type 0
StaysElsewhere name old new = (other : List ℕ) → other ≢ name → new other ≡ old other

-- a call of the name was counted: its failing call is one nearer, if there is one
abbrev pub CountsDown : List ℕ → (List ℕ → ℕ) → (List ℕ → ℕ) → Type 0
CountsDown name old new = (new name ≡ old name - 1) × StaysElsewhere name old new
