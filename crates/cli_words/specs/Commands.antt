-- The command that words give.
use Rattle.std.specs.Prelude.{◌≡◌, ◌==◌, ◌&&◌, ◌||◌, ◌≤◌, ◌-◌, ◌^◌, not, ℕ, Bool, true, List, [], ◌∷◌, length, nat_le, nat_lt, slice_index, codes, Option, None, Some, if◌then◌else◌, option_map, option_and_then}
use Rattle.std.specs.List.{list_all}
use Rattle.std.specs.Str.{bytes_eq}
use Rattle.clap.specs.Words.{App, Row, Rule, Kinds, fault_of, first_of, matches_of, new_app, new_rule, with_rule}
use Rattle.lib_base.specs.declared.limits.TheConstants.{MOST_WORKERS}
use Rattle.cli_words.specs.Numbers.{number_of, number_or}
use Rattle.cli_words.specs.declared.commands.Command.{Command}
use Rattle.cli_words.specs.declared.commands.Command.TheVariants.{Session, Serve}
use Rattle.cli_words.specs.declared.commands.TheConstants.{MOST_WORDS, WORKERS, REQUESTS, MOST_CONNECTIONS}

-- ---- what `clap` reads

-- an application of that name, with no help
abbrev pub app_named : List ℕ → App
app_named name = record { top = record (new_app name).top { disable_help_flag = true }; subs = [] }

-- an option of that name with one value, used once at most
abbrev pub option_named : List ℕ → Rule
option_named name = record (new_rule name) { long = Some name }

-- the options of a session
abbrev pub session_app : App
session_app = with_rule (with_rule (app_named (codes "session")) (option_named (codes "workers"))) (option_named (codes "requests"))

-- those of serving
abbrev pub serve_app : App
serve_app =
    with_rule (with_rule (with_rule (app_named (codes "serve")) (option_named (codes "connections")))
    (option_named (codes "workers"))) (option_named (codes "requests"))

-- ---- the numbers of the options

abbrev pub workers_in : List Row → Option ℕ
workers_in rows = number_or (first_of (codes "workers") rows) MOST_WORKERS WORKERS

abbrev pub requests_in : List Row → Option ℕ
requests_in rows = number_or (first_of (codes "requests") rows) (2 ^ 32 - 1) REQUESTS

abbrev pub connections_in : List Row → Option ℕ
connections_in rows = option_and_then (λ text. number_of text MOST_CONNECTIONS) (first_of (codes "connections") rows)

-- the session of these options
abbrev pub session_in : List Row → Option Command
session_in rows = option_and_then (λ workers. option_map (λ requests. Session workers requests) (requests_in rows)) (workers_in rows)

-- the serving of these options, of which that of the connections has to be there
abbrev pub serve_in : List Row → Option Command
serve_in rows =
    option_and_then (λ connections. option_and_then (λ workers. option_map (λ requests. Serve connections workers requests)
    (requests_in rows)) (workers_in rows)) (connections_in rows)

-- ---- the words

abbrev pub is_none : Kinds → Bool
is_none kinds = length kinds == 0

-- what words give of which the first is `session`: none where `clap` refuses them
abbrev pub session_by : List (List ℕ) → Option Command
session_by words = if is_none (fault_of session_app words) then session_in (matches_of session_app words) else None

-- the same of `serve`
abbrev pub serve_by : List (List ℕ) → Option Command
serve_by words = if is_none (fault_of serve_app words) then serve_in (matches_of serve_app words) else None

-- what words give of which this is the first
abbrev pub command_named : List ℕ → List (List ℕ) → Option Command
command_named name words =
    if bytes_eq name (codes "session") then session_by words
    else (if bytes_eq name (codes "serve") then serve_by words else None)

-- A word is put to `clap`: it is not empty, and where it begins with a `-`, a second one follows, and something behind that.
abbrev pub is_put : List ℕ → Bool
is_put word = nat_lt 0 (length word) && (not (slice_index word 0 == 45) || (slice_index word 1 == 45 && nat_lt 2 (length word)))

-- all words are, of which there are not too many
abbrev pub are_put : List (List ℕ) → Bool
are_put words = nat_le (length words) MOST_WORDS && list_all is_put words

-- The command that words give, with its numbers, or none.
abbrev pub command_of : List (List ℕ) → Option Command
command_of [] = None
command_of (name ∷ rest) = if are_put (name ∷ rest) then command_named name (name ∷ rest) else None

-- the numbers of a command are those that it may have
abbrev pub IsWithin : Command → Type 0
IsWithin (Session workers requests) = (1 ≤ workers) × (workers ≤ MOST_WORKERS) × (1 ≤ requests)
IsWithin (Serve connections workers requests) =
    (1 ≤ connections) × (connections ≤ MOST_CONNECTIONS) × (1 ≤ workers) × (workers ≤ MOST_WORKERS) × (1 ≤ requests)
