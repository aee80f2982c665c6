-- The laws of scripts, each as a statement of its own.
use Rattle.std.specs.Prelude.{◌≡◌, ℕ, ℤ, List, [], ◌∷◌, All, Contains, codes, Some, None, Ok}
use Rattle.ord_script.specs.Spelling.{key, pointer, argument_text, IsInRange, spelled, CanBeSaid, script_text}
use Rattle.ord_script.specs.{Commands.said_by, Numbers.key_of, Numbers.pointer_of, Script.script_of}
use Rattle.ord_script.specs.{Pairs.Pointer, Pairs.PairCommand, Service.Answers}

-- the answers to a script of these two commands; a line says if memory was refused
abbrev pub first_answers : List (List ℕ)
first_answers = codes "new 1.2\nranks 1\n" ∷ codes "new 1.2\nrefused memory\n" ∷ codes "refused memory\nranks\n" ∷ []

-- it has no other answer
abbrev pub FirstRankTextLaw : Type 0 → Type 0
FirstRankTextLaw A = (text : List ℕ) → Answers A (script_of (codes "insert 5 1\nranks\n")) text → Contains first_answers text

-- reading the text of a key gives the key
abbrev pub KeyTextLaw : Type 0
KeyTextLaw = (k : ℤ) → IsInRange (key k) → key_of (argument_text (key k)) ≡ Some k

-- reading the text of a pointer gives the pointer
abbrev pub PointerTextLaw : Type 0
PointerTextLaw = (p : Pointer) → IsInRange (pointer p) → pointer_of (argument_text (pointer p)) ≡ Some p

-- reading what a script says for a command gives the command
abbrev pub CommandTextLaw : Type 0
CommandTextLaw = (command : PairCommand) → CanBeSaid command → said_by (spelled command) ≡ Some (Ok command)

-- cutting and reading the lines of some commands gives these commands and no fault
abbrev pub ScriptTextLaw : Type 0
ScriptTextLaw = (commands : List PairCommand) → All CanBeSaid commands
    → script_of (script_text commands) ≡ record { commands = commands; fault = None }
