pub mod CityLaws
