-- The whole tree of a sheet's bytes.
use Rattle.std.proofs.Common.{◌≡◌, ℕ, ◌+◌, ◌≤◌, List, [], length, refl}
use Rattle.model.specs.Values.{Rec, Recs, Rmems, r_null, r_plain, r_list, r_object, r_nil, r_cons, r_end, r_mem}
use Rattle.model.specs.Back.{Shows, ShowsAll, ShowsMems, s_null, s_plain, s_list, s_object, s_nil, s_cons, s_end, s_mem}
use Rattle.model.specs.Records.{encode, encode_mems}
use Rattle.model.specs.Limits.{RecLimits}
use Rattle.text.specs.declared.fault.Fault.{Fault}
use Rattle.text.specs.declared.fault.Fault.TheVariants.{BadText, TooDeep, NoSpace, RepeatedName, LongNumber, NoMemory}
use Rattle.stored.specs.Outcomes.{got, fails, ReadsMembers, ReadsSheet, all_members}
use Rattle.stored.specs.Told.{Blames}
use Rattle.stored.specs.Laws.{Within, Accepted, Refused, ReadsOnce, ReadsBack, AcceptsBack}
use Rattle.stored.specs.OneTree.{one_held, limits_fit_mems}
use Rattle.stored.proofs.OutSame.{one_outcome}
use Rattle.stored.proofs.OutSound.{sheet_sound, sheet_complete, sheet_refuses}
use Rattle.stored.proofs.RdSteps.{blames_on}
use Rattle.stored.specs.Frames.{past}
use Rattle.stored.specs.Cursors.{shown, shown_all, shown_mems, at_root, Held}

mutual
  pub shown-shows : (p f : ℕ) (r : Rec) → Shows r (shown p f r)
  shown-shows p f r_null = s_null
  shown-shows p f (r_plain x) = s_plain refl
  shown-shows p f (r_list rs) = s_list (shown-shows_all f rs)
  shown-shows p f (r_object ms) = s_object (shown-shows_mems f ms)

  shown-shows_all : (i : ℕ) (rs : Recs) → ShowsAll rs (shown_all i rs)
  shown-shows_all i r_nil = s_nil
  shown-shows_all i (r_cons r rs) = s_cons (shown-shows i (i + 6) r) (shown-shows_all (i + length (encode r)) rs)

  pub shown-shows_mems : (i : ℕ) (ms : Rmems) → ShowsMems ms (shown_mems i ms)
  shown-shows_mems i r_end = s_end
  shown-shows_mems i (r_mem n r ms) = s_mem (shown-shows (past i n) (past i n + 6) r) (shown-shows_mems (past i n + length (encode r)) ms)

pub root_shows : (ms : Rmems) → Shows (r_object ms) (shown 0 0 (r_object ms))
root_shows ms = shown-shows 0 0 (r_object ms)

pub root_held : (bytes : List ℕ) (ms : Rmems) → length bytes ≤ 65536 → encode_mems ms ≡ bytes → RecLimits 0 (r_object ms) → Held bytes (length bytes) (shown 0 0 (r_object ms))
root_held bytes ms n e l = record { place = 0; from = 0; value = r_object ms; leads = at_root refl e; shows = refl; depth = 0; within = l; short = n }

-- READING

pub accepted : (bytes : List ℕ) (ms : Rmems) → length bytes ≤ 65536 → ReadsMembers bytes 32 [] 0 (length bytes) (got (length bytes) ms) → Accepted bytes
accepted bytes ms n x =
    let s = sheet_sound bytes (length bytes) ms x in
    let h = root_held bytes ms n s.0.bytes_are s.1 in
    record {
      members = ms;
      sheet = record { short = n; decodes = s.0; within = s.1 };
      reads = all_members n x;
      tree = shown 0 0 (r_object ms);
      shows = root_shows ms;
      stands = h;
      only = λ u k. one_held bytes (length bytes) (shown 0 0 (r_object ms)) u h k;
    }

pub refused : (bytes : List ℕ) (f : Fault) → ReadsSheet bytes (fails f) → Refused bytes f
refused bytes f x = record { reads = x; none = λ ms w. sheet_refuses bytes f x ms w.decodes w.within w.short }

pub refused_members : (bytes : List ℕ) (f : Fault) → length bytes ≤ 65536 → Blames f (λ g. ReadsMembers bytes 32 [] 0 (length bytes) (fails g)) → Blames f (Refused bytes)
refused_members bytes f n x = blames_on f (λ g. ReadsMembers bytes 32 [] 0 (length bytes) (fails g)) (Refused bytes) (λ g y. refused bytes g (all_members n y)) x

pub reads_once_lem : ReadsOnce
reads_once_lem bytes o p x y = one_outcome x y

pub reads_back_lem : ReadsBack
reads_back_lem ms l n = sheet_complete (encode_mems ms) ms n (record { fits = limits_fit_mems 1 ms l.2; bytes_are = refl }) l

pub sheet_within : (ms : Rmems) → RecLimits 0 (r_object ms) → length (encode_mems ms) ≤ 65536 → Within (encode_mems ms) ms
sheet_within ms l n = record { short = n; decodes = record { fits = limits_fit_mems 1 ms l.2; bytes_are = refl }; within = l }

pub accepts_back : AcceptsBack
accepts_back ms l n (BadText k) r = absurd (r.none ms (sheet_within ms l n))
accepts_back ms l n (TooDeep k) r = absurd (r.none ms (sheet_within ms l n))
accepts_back ms l n (NoSpace k) r = absurd (r.none ms (sheet_within ms l n))
accepts_back ms l n (RepeatedName k) r = absurd (r.none ms (sheet_within ms l n))
accepts_back ms l n (LongNumber k) r = absurd (r.none ms (sheet_within ms l n))
accepts_back ms l n NoMemory r = refl
