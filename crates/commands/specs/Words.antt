-- What each word of the programs does with what the reads left: the whole run of its task, from a fresh start or from the controller of an
-- image; and what is said on standard output beside it.
-- Assumes nothing.
use Rattle.std.specs.Prelude.{ℕ, ◌≤◌, Bool, cond, ◌||◌, Option, List, [], ◌∷◌, ◌++◌, ◌≡◌, T, length, replicate, Some, IsSomeAnd, OnSome}
use Rattle.common.specs.Ascii.{ascii, lf}
use Rattle.common.specs.Decimal.{decimal}
use Rattle.controller.specs.declared.State.{State}
use Rattle.trace.specs.Header.{same_text}
use Rattle.reading.specs.Rows.{has_started}
use Rattle.plain.specs.Plain.{plain_of}
use Rattle.forms.specs.Forms.{old_size, new_size}
use Rattle.converting.specs.Converting.{to_new_of, to_old_of}
use Rattle.commands.specs.declared.saving.Loaded as taken
use Rattle.commands.specs.declared.conversions.Converted.{Converted}
use Rattle.commands.specs.declared.conversions.Form.{Form}
use Rattle.commands.specs.declared.conversions.Form.TheVariants.{New, Old}
use Rattle.commands.specs.Loading.{Loaded, loaded_says, loaded_of}
use Rattle.running.specs.declared.Ran.{Ran}
use Rattle.running.specs.Rules.{Rule}
use Rattle.running.specs.Works.{image as image_left}
use Rattle.running.specs.Loops.{RanFrom}
use Rattle.commands.specs.declared.images.Saved.{Saved}
use Rattle.commands.specs.declared.images.Shown.{Shown}

-- ---- Which words there are

-- The first word of those that `desk` is given.
abbrev pub is_first_word : List ℕ → Bool
is_first_word word = same_text word (ascii "waves") || (same_text word (ascii "sheet") || (same_text word (ascii "handover") || same_text word (ascii "wall")))

-- ---- From a controller

-- There are bytes that this is the loading of.
abbrev pub LoadedFrom : Option taken.Loaded → Type 0
LoadedFrom answer = (bytes : List ℕ) × (loaded_says (length bytes) answer ≡ loaded_of bytes)

-- An image that was taken: where nothing failed in a run from an image, there was one, and the run is from the controller that it is of.
pub record Onward {A : Type 0} (rule : Rule A) (ran : Ran A) : Type 0 where
  pub image : List ℕ
  pub taken : T (loaded_of image).taken
  pub whole : RanFrom rule (loaded_of image).state (Some ran)

-- ---- Saving

-- The run of the trace from a controller; an image is saved only where nothing failed and row 0 was read.
pub record SavedFrom (state : State) (answer : Saved) : Type 0 where
  pub whole : RanFrom image_left state answer.ran
  pub only_then : T answer.saved → IsSomeAnd answer.ran (λ ran. T (has_started ran.work.run.reading.phase))

-- The same from an image, of which there was one where anything was run.
pub record SavedOnward (answer : Saved) : Type 0 where
  pub image : List ℕ
  pub taken : OnSome answer.ran (T (loaded_of image).taken)
  pub right : SavedFrom (loaded_of image).state answer

-- What is said of an image that was saved: its path, and of which line it is.
unfoldable pub saved_text : List ℕ → ℕ → List ℕ
saved_text path line = path ++ ascii ": the lesson after line " ++ decimal line ++ lf ∷ []

-- ---- Converting

-- A form has so many bytes, and this is said of an image that was converted to it.
abbrev pub form_size : Form → ℕ
form_size New = new_size
form_size Old = old_size

abbrev pub form_name : Form → List ℕ
form_name New = ascii ": the new form of "
form_name Old = ascii ": the old form of "

-- The conversion to a form, into a lent buffer.
abbrev pub converted_by : Form → List ℕ → List ℕ → ℕ × List ℕ
converted_by New = to_new_of
converted_by Old = to_old_of

-- A buffer for either form, before anything is put into it.
abbrev pub no_image : List ℕ
no_image = replicate new_size 0

-- There are bytes that this is the loading of, and an image was put there only where their conversion gives 0. (That its bytes are what was put
-- there is read in the source, and tested.)
pub record ConvertedFrom (form : Form) (answer : Converted) : Type 0 where
  pub image : List ℕ
  pub loaded : loaded_says (length image) answer.loaded ≡ loaded_of image
  pub only_then : T answer.saved → (converted_by form image no_image).0 ≡ 0

-- What is said of it: its path, the form, and the path of the other.
unfoldable pub converted_text : List ℕ → List ℕ → Form → List ℕ
converted_text path from form = path ++ form_name form ++ from ++ lf ∷ []

-- ---- Showing

-- An image of which every item is 0 is told as such, behind its words.
abbrev pub blank_text : Bool → List ℕ
blank_text blank = cond blank (ascii "every item of this image is 0, as a lost write leaves it" ++ lf ∷ []) []

unfoldable pub shown_text : Loaded → List ℕ
shown_text loaded = plain_of loaded.state ++ blank_text loaded.blank

-- So many bytes were put out as the text has, where it went well.
pub record ShownRight (answer : Shown) : Type 0 where
  pub image : List ℕ
  pub taken : T (loaded_of image).taken
  pub counted : length (shown_text (loaded_of image)) ≤ 4096 → answer.put ≡ length (shown_text (loaded_of image))
