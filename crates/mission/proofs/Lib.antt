mod Betweens
mod Lists
mod Steps
