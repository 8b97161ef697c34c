-- The figures of a store and of its rings in the text format of Prometheus.
use Rattle.std.specs.Prelude.{◌≡◌, ℕ, ◌++◌, List, [], ◌∷◌, codes, decimal}
use Rattle.std.specs.List.{flat_map}
use Rattle.ring_model.specs.Ring.{RingRecord}
use Rattle.ring_words.specs.Limits.{most_versions}
use Rattle.ring_words.specs.Texts.{hundredths_text}
use Rattle.ring_metrics.specs.Measures.{AreMeasured}
use Rattle.ring_metrics.specs.declared.measures.Measured.{Measured}
use Rattle.ring_metrics.specs.declared.metrics.Figure.{Figure}
use Rattle.ring_metrics.specs.declared.metrics.Figure.TheVariants as figure
use Rattle.ring_metrics.specs.declared.metrics.FigureValue.{FigureValue}
use Rattle.ring_metrics.specs.declared.metrics.FigureValue.TheVariants.{Number, Percent}
use Rattle.ring_metrics.specs.declared.metrics.StoreFigures.{StoreFigures}

-- what stands in front of a metric: its name behind `ringd_` and what it is, and that it is a gauge
abbrev pub metric_head : List ℕ → List ℕ → List ℕ
metric_head name help = codes "# HELP ringd_" ++ name ++ codes " " ++ help ++
    codes "\n# TYPE ringd_" ++ name ++ codes " gauge\n"

-- a metric of one number, which has no labels
abbrev pub plain_metric : List ℕ → List ℕ → ℕ → List ℕ
plain_metric name help value = metric_head name help ++ codes "ringd_" ++ name ++ codes " " ++
    decimal value ++ codes "\n"

-- the metrics of a store
abbrev pub store_metrics : StoreFigures → List ℕ
store_metrics store =
    plain_metric (codes "numbers_kept") (codes "Numbers of callers that are kept.") store.kept ++
    plain_metric (codes "numbers_limit") (codes "Most numbers that may be kept.") store.limit ++
    plain_metric (codes "greatest_hour") (codes "Greatest hour decided at, in hours since 1970.")
    store.hour

-- the name of a figure's metric behind `ringd_`
abbrev pub figure_name : Figure → List ℕ
figure_name figure.Version = codes "ring_version"
figure_name figure.Partitions = codes "ring_partitions"
figure_name figure.Replicas = codes "ring_replicas"
figure_name figure.Balance = codes "ring_balance_percent"
figure_name figure.Dispersion = codes "ring_dispersion_percent"
figure_name figure.Locked = codes "ring_locked_partitions"
figure_name figure.Rest = codes "ring_locked_hours"
figure_name figure.Published = codes "ring_published_versions"
figure_name figure.PublishedLimit = codes "ring_published_limit"
figure_name figure.Misplaced = codes "ring_misplaced_seats"

-- what it is, in words
abbrev pub figure_help : Figure → List ℕ
figure_help figure.Version = codes "Version of the ring."
figure_help figure.Partitions = codes "Partitions of the ring."
figure_help figure.Replicas = codes "Replicas of each partition."
figure_help figure.Balance = codes "How far the worst device is from its share, in percent of it."
figure_help figure.Dispersion = codes "Partitions that could stand farther apart, in percent of all."
figure_help figure.Locked = codes "Partitions that a rebalance now would leave where they are."
figure_help figure.Rest = codes "Hours until no partition is locked."
figure_help figure.Published = codes "Published versions of the ring."
figure_help figure.PublishedLimit = codes "Most versions that may be published."
figure_help figure.Misplaced = codes "Seats that devices have above those that they want."

-- a figure of what is measured of a ring
abbrev pub figure_value : Figure → Measured → FigureValue
figure_value figure.Version measured = Number measured.version
figure_value figure.Partitions measured = Number measured.partitions
figure_value figure.Replicas measured = Number measured.replicas
figure_value figure.Balance measured = Percent measured.balance
figure_value figure.Dispersion measured = Percent measured.dispersion
figure_value figure.Locked measured = Number measured.locked
figure_value figure.Rest measured = Number measured.rest
figure_value figure.Published measured = Number measured.published
figure_value figure.PublishedLimit measured = Number most_versions
figure_value figure.Misplaced measured = Number measured.misplaced

-- a figure in digits, hundredths of a percent with a point
abbrev pub value_text : FigureValue → List ℕ
value_text (Number number) = decimal number
value_text (Percent hundredths) = hundredths_text hundredths

-- a figure of a ring as a line, under the ring's name
abbrev pub figure_sample : Figure → Measured → List ℕ
figure_sample what measured = codes "ringd_" ++ figure_name what ++ codes "{ring=\"" ++
    measured.name.now ++ codes "\"} " ++ value_text (figure_value what measured) ++ codes "\n"

-- a figure of all rings as a metric
abbrev pub figure_metric : List Measured → Figure → List ℕ
figure_metric all what =
    metric_head (figure_name what) (figure_help what) ++ flat_map (figure_sample what) all

-- the figures in the order in which they are told
abbrev pub told_figures : List Figure
told_figures = figure.Version ∷ figure.Partitions ∷ figure.Replicas ∷ figure.Balance ∷
    figure.Dispersion ∷ figure.Locked ∷ figure.Rest ∷ figure.Published ∷ figure.PublishedLimit ∷
    figure.Misplaced ∷ []

-- how many devices of a ring are in a state, as a line under the ring's name and the state's word
abbrev pub state_sample : List ℕ → List ℕ → ℕ → List ℕ
state_sample ring state count = codes "ringd_ring_devices{ring=\"" ++ ring ++
    codes "\",state=\"" ++ state ++ codes "\"} " ++ decimal count ++ codes "\n"

-- those of all states
abbrev pub device_samples : Measured → List ℕ
device_samples measured =
    state_sample measured.name.now (codes "open") measured.open_devices ++
    state_sample measured.name.now (codes "drained") measured.drained_devices ++
    state_sample measured.name.now (codes "removed") measured.removed_devices

-- the devices of all rings as a metric
abbrev pub device_metric : List Measured → List ℕ
device_metric all =
    metric_head (codes "ring_devices") (codes "Devices of the ring by state.") ++
    flat_map device_samples all

-- all metrics of a store, where this is measured of its rings
abbrev pub metrics_text : StoreFigures → List Measured → List ℕ
metrics_text store all =
    store_metrics store ++ flat_map (figure_metric all) told_figures ++ device_metric all

-- The text tells the metrics of a store, and of its rings at an hour, by their names.
pub record IsMetrics (store : StoreFigures) (rings : List (List ℕ × RingRecord)) (hour : ℕ)
    (text : List ℕ) : Type 0 where
  pub all : List Measured
  pub measured : AreMeasured rings hour all
  pub told : text ≡ metrics_text store all
