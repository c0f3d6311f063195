-- The numbers of commands are those that they may have.
use Rattle.std.proofs.Common.{◌≡◌, ◌≤◌, ◌&&◌, ◌-◌, ◌^◌, ℕ, Bool, true, false, Option, None, Some, IfSome, List, refl, rules, arith, nat_le, if◌then◌else◌, codes, option_map, option_and_then}
use Rattle.clap.specs.Words.{Row, first_of, matches_of}
use Rattle.lib_base.specs.declared.limits.TheConstants.{MOST_WORKERS}
use Rattle.cli_words.specs.Numbers.{number_read, number_of, number_or}
use Rattle.cli_words.specs.Commands.{workers_in, requests_in, connections_in, session_in, serve_in, session_by, serve_by, command_named, session_app, serve_app, IsWithin}
use Rattle.cli_words.specs.declared.commands.Command.{Command}
use Rattle.cli_words.specs.declared.commands.Command.TheVariants.{Session, Serve}
use Rattle.cli_words.specs.declared.commands.TheConstants.{WORKERS, REQUESTS, MOST_CONNECTIONS}

-- a number from 1 to `most`
abbrev IsUpTo : ℕ → ℕ → Type 0
IsUpTo most number = (1 ≤ number) × (number ≤ most)

-- a test that holds of a number that is kept
kept : (most number : ℕ) (b : Bool) → (nat_le 1 number && nat_le number most) ≡ b → IfSome (if b then Some number else None) (IsUpTo most)
kept most number true is = search rules
kept most number false is = tt

up_to : (most : ℕ) (read : Option ℕ)
    → IfSome (option_and_then (λ number. if nat_le 1 number && nat_le number most then Some number else None) read) (IsUpTo most)
up_to most None = tt
up_to most (Some number) = kept most number _ refl

number_or-within : (value : Option (List ℕ)) (most default : ℕ) → IsUpTo most default → IfSome (number_or value most default) (IsUpTo most)
number_or-within None most default own = own
number_or-within (Some text) most default own = up_to most (number_read text)

connections-within : (value : Option (List ℕ)) (most : ℕ) → IfSome (option_and_then (λ text. number_of text most) value) (IsUpTo most)
connections-within None most = tt
connections-within (Some text) most = up_to most (number_read text)

workers-within : (rows : List Row) → IfSome (workers_in rows) (IsUpTo MOST_WORKERS)
workers-within rows = number_or-within (first_of (codes "workers") rows) MOST_WORKERS WORKERS (omega arith, omega arith)

requests-within : (rows : List Row) → IfSome (requests_in rows) (IsUpTo (2 ^ 32 - 1))
requests-within rows = number_or-within (first_of (codes "requests") rows) (2 ^ 32 - 1) REQUESTS (omega arith, omega arith)

-- a session of numbers in their ranges, where both are there
session-made : (workers requests : Option ℕ) → IfSome workers (IsUpTo MOST_WORKERS) → IfSome requests (IsUpTo (2 ^ 32 - 1))
    → IfSome (option_and_then (λ w. option_map (λ r. Session w r) requests) workers) IsWithin
session-made None requests w r = tt
session-made (Some workers) None w r = tt
session-made (Some workers) (Some requests) w r = (w.0, w.1, r.0)

-- the same of serving
serve-made : (connections workers requests : Option ℕ) → IfSome connections (IsUpTo MOST_CONNECTIONS)
    → IfSome workers (IsUpTo MOST_WORKERS) → IfSome requests (IsUpTo (2 ^ 32 - 1))
    → IfSome (option_and_then (λ c. option_and_then (λ w. option_map (λ r. Serve c w r) requests) workers) connections) IsWithin
serve-made None workers requests c w r = tt
serve-made (Some connections) None requests c w r = tt
serve-made (Some connections) (Some workers) None c w r = tt
serve-made (Some connections) (Some workers) (Some requests) c w r = (c.0, c.1, w.0, w.1, r.0)

-- a command, or none where its words are refused
where-taken : (taken : Bool) (command : Option Command) → IfSome command IsWithin → IfSome (if taken then command else None) IsWithin
where-taken true command within = within
where-taken false command within = tt

session-within : (words : List (List ℕ)) → IfSome (session_by words) IsWithin
session-within words =
    let rows = matches_of session_app words in
    where-taken _ _ (session-made _ _ (workers-within rows) (requests-within rows))

serve-within : (words : List (List ℕ)) → IfSome (serve_by words) IsWithin
serve-within words =
    let rows = matches_of serve_app words in
    where-taken _ _ (serve-made _ _ _ (connections-within (first_of (codes "connections") rows) MOST_CONNECTIONS)
    (workers-within rows) (requests-within rows))

-- one of two commands, or none
one-of : (a b : Bool) (x y : Option Command) → IfSome x IsWithin → IfSome y IsWithin
    → IfSome (if a then x else (if b then y else None)) IsWithin
one-of true b x y fx fy = fx
one-of false true x y fx fy = fy
one-of false false x y fx fy = tt

-- The numbers of a command that words give are in their ranges.
pub named-within : (name : List ℕ) (words : List (List ℕ)) → IfSome (command_named name words) IsWithin
named-within name words = one-of _ _ _ _ (session-within words) (serve-within words)
