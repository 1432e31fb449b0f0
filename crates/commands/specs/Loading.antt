-- What loading an image by its name gives. (Which bytes a file has is the operating system's to say.)
-- Assumes nothing.
use Rattle.std.specs.Prelude.{ℕ, ◌≤◌, Bool, true, false, ◌&&◌, ◌||◌, List, Option, None, Some, ◌≡◌, eqb, length, take}
use Rattle.forms.specs.Forms.{old_size, new_size}
use Rattle.controller.specs.declared.State.{State}
use Rattle.controller.specs.Start.{fresh_of}
use Rattle.image.specs.Xdr.{items_in}
use Rattle.image.specs.Items.{item_at}
use Rattle.image.specs.Images.{refusal_of, load_of}
use Rattle.image.specs.Faults.{is_blank}
use Rattle.commands.specs.declared.saving.Loaded as taken

-- What was loaded: whether it is an image that is taken, whether every item of it is 0, the controller that it is of, and how many bytes
-- were read.
pub record Loaded : Type 0 where
  pub taken : Bool
  pub blank : Bool
  pub state : State
  pub read : ℕ

-- Of the bytes that were read: whether they are an image that is taken, whether every item of it is 0, and the controller that it is of,
-- at the image's own stamp. Where it is not taken, a fresh controller, which is not used.
unfoldable pub loaded_of : List ℕ → Loaded
loaded_of bytes =
    record {
      taken = eqb (refusal_of bytes) 0;
      blank = eqb (refusal_of bytes) 0 && is_blank bytes;
      state = (load_of (fresh_of 0) bytes (item_at (items_in bytes) 0)).state;
      read = length bytes;
    }

-- What a load answers, as such: an image that is taken, or none, where so many bytes were read.
abbrev pub loaded_says : ℕ → Option taken.Loaded → Loaded
loaded_says read None = record { taken = false; blank = false; state = fresh_of 0; read = read }
loaded_says read (Some t) = record { taken = true; blank = t.blank; state = t.state; read = t.read }

-- So many bytes were read into the front of a buffer, and it is their loading. (Where nothing could be read, no bytes are no image.)
pub record LoadedFront (answer : Option taken.Loaded) (buffer : List ℕ) : Type 0 where
  pub read : ℕ
  pub within : read ≤ length buffer
  pub loaded : loaded_says read answer ≡ loaded_of (take read buffer)

-- A file of which so many bytes were read may be replaced by an image: it is empty, or has the length of one of either form.
abbrev pub may_stand : ℕ → Bool
may_stand n = eqb n 0 || eqb n old_size || eqb n new_size
